-- How long a plan's text can be. The digits of the packet numbers are counted; every other number is taken at its longest.
use mathlib.Core.Path.{◌≡◌, refl}
use mathlib.Core.List.Memᴰ.{head as here}
use mathlib.Core.List.Memᴰ.{tail as there}
use mathlib.Core.List.{List, [], ◌∷◌, Memᴰ}
use Prim.Native.Nat.{ℕ, suc, ◌+◌, ◌*◌, ◌≤◌}
use native.Mathlib.Omega.{arith}
use lib.ListN.{length, length-append}
use Rattle.counting.specs.Count.{bit, among, sum_below}
use Rattle.counting.proofs.Sums.{bit-le-one, sum_le, sum_const}
use Rattle.counting.proofs.Hits.{sum_below_mono}
use Rattle.counting.proofs.Places.{at_mem}
use Rattle.rules.specs.Sizes.{packets_most, delay_most, path_most, start_most, plan_most}
use Rattle.rules.specs.Network.{Job, paths}
use Rattle.rules.specs.Travel.{delay_in, travel}
use Rattle.rules.specs.Counts.{end_of, routing_time, load, congestion, dilation}
use Rattle.rules.specs.Bytes.{letter_s, letter_t, digits, decimal, fields_text, line_text}
use Rattle.rules.specs.PlanText.{packet_lines, text_of_plan}
use Rattle.theorems.proofs.Travels.{PathsFit, travel-le_hops}
use Rattle.theorems.proofs.Bounds.{routing_time-le}
use Rattle.theorems.proofs.Counts.{congestion_least, dilation_least}
use Rattle.theorems.proofs.Numbers.{decimal-length-le}

-- how many digits the numbers below n have together
digits_below : ℕ → ℕ
digits_below n = sum_below (λ k. length (decimal k)) n

digits-below_mono : (m n : ℕ) → m ≤ n → digits_below m ≤ digits_below n
unfolding digits_below
digits-below_mono = sum_below_mono (λ k. length (decimal k))

digits-below-packets : digits_below packets_most ≡ 2986
unfolding digits_below decimal digits
digits-below-packets = refl

line_length : (letter a b c : ℕ) → length (line_text letter (a ∷ b ∷ c ∷ [])) ≡ 5 + length (decimal a) + length (decimal b) + length (decimal c)
unfolding line_text fields_text
line_length letter a b c = simp length-append (omega arith)

-- each start and each path is within its size
abbrev pub StartsFit : List ℕ → Type 0
StartsFit starts = (s : ℕ) → Memᴰ s starts → s ≤ start_most

-- beside the digits of its packet number a line has at most 15 bytes
lines_length-le : (delay : ℕ → ℕ) (k m : ℕ) (ss : List ℕ) (ps : List (List ℕ)) → StartsFit ss → PathsFit delay ps → k + length ss ≤ m
    → digits_below k + length (packet_lines delay k ss ps) ≤ 15 * length ss + digits_below m
unfolding digits_below packet_lines end_of
lines_length-le delay k m [] ps f g h = omega (arith, digits-below_mono k m (omega arith))
lines_length-le delay k m (s ∷ ss) [] f g h = omega (arith, digits-below_mono k m (omega arith))
lines_length-le delay k m (s ∷ ss) (p ∷ ps) f g h =
    let a = f s (here refl) in
    let (short, delayed) = g p (here refl) in
    let b = travel-le_hops delay p delayed in
    omega (
      arith,
      length-append (line_text letter_s (k ∷ s ∷ (s + travel delay p) ∷ [])) (packet_lines delay (suc k) ss ps),
      line_length letter_s k s (s + travel delay p),
      decimal-length-le 4 s (omega arith),
      decimal-length-le 4 (s + travel delay p) (omega arith),
      lines_length-le delay (suc k) m ss ps (λ t i. f t (there i)) (λ q i. g q (there i)) (omega arith),
    )

pub ends_le : (delay : ℕ → ℕ) (ss : List ℕ) (ps : List (List ℕ)) → StartsFit ss → PathsFit delay ps → routing_time delay ss ps ≤ start_most + delay_most * path_most
unfolding end_of
ends_le delay ss ps f g =
    routing_time-le delay ss ps (start_most + delay_most * path_most)
    (λ k s p e h. let (short, delayed) = g p (at_mem ps k h) in omega (arith, f s (at_mem ss k e), short, travel-le_hops delay p delayed))

pub load-le : (link : ℕ) (ps : List (List ℕ)) → load link ps ≤ length ps
unfolding load
load-le link ps =
    omega (arith, sum_le (λ p. bit (among link p)) (λ p. 1) ps (λ p m. bit-le-one (among link p)), sum_const {A = List ℕ} 1 ps)

pub congestion-le : (j : Job) → congestion j ≤ length (paths j)
congestion-le j = congestion_least j (length (paths j)) (λ link l. load-le link (paths j))

pub dilation-le : (j : Job) → PathsFit (delay_in j) (paths j) → dilation j ≤ delay_most * path_most
dilation-le j g =
    dilation_least j (delay_most * path_most) (λ p m. let (short, delayed) = g p m in omega (arith, short, travel-le_hops (delay_in j) p delayed))

pub plan_length-le : (j : Job) (starts : List ℕ) → length starts ≤ packets_most → StartsFit starts
    → PathsFit (delay_in j) (paths j) → length (paths j) ≤ packets_most → length (text_of_plan j starts) ≤ plan_most
unfolding text_of_plan
plan_length-le j starts m f g n =
    let time = routing_time (delay_in j) starts (paths j) in
    omega (
      arith,
      length-append (packet_lines (delay_in j) 0 starts (paths j)) (line_text letter_t (time ∷ congestion j ∷ dilation j ∷ [])),
      lines_length-le (delay_in j) 0 packets_most starts (paths j) f g (omega arith),
      digits-below-packets,
      line_length letter_t time (congestion j) (dilation j),
      decimal-length-le 4 time (omega (arith, ends_le (delay_in j) starts (paths j) f g)),
      decimal-length-le 3 (congestion j) (omega (arith, congestion-le j)),
      decimal-length-le 2 (dilation j) (omega (arith, dilation-le j g)),
    )
