-- A text is refused by its own numbers only (specs/TextNumbers.antt), and the place is at most the number of its pieces between
-- line feeds: the other numbers are about lists, rooms, starts and leads. So all that `plan` prints fits the room that always suffices.
use mathlib.Core.Path.{◌≡◌, refl, ap}
use mathlib.Core.Bool.{Bool, true, false, not, ◌&&◌}
use mathlib.Core.List.{List, [], ◌∷◌, ◌++◌}
use mathlib.Core.Option.{Option, none, some}
use Prim.Native.Nat.{ℕ, suc, ◌+◌, ◌≤◌}
use native.Mathlib.Omega.{arith}
use lib.Dec.{eqb, ltb, leb}
use lib.ListN.{length, length-append}
use borrow.Author.Tests.{leb-true, ltb-false}
use Rattle.counting.specs.Count.{bit, among}
use Rattle.counting.proofs.Sums.{bit-le-one, sum_le, sum_const}
use Rattle.counting.proofs.Tests.{or_right, among_none}
use Rattle.rules.specs.Sizes.{text_most, nodes_most, links_most, packets_most, path_most, hops_most, plan_most}
use Rattle.rules.specs.Bytes.{fields_text, line_text, split, line_feed}
use Rattle.rules.specs.Network.{Network, Link, link_at, Job}
use Rattle.rules.specs.Outcome.{Outcome, is, refused, must, ◌then◌}
use Rattle.rules.specs.Tables.{link_verdict, hop, walk, packet_verdict}
use Rattle.rules.specs.JobText.{Line, nodes, link, packet, bad, line_of, with_line, with_lines, first_line, all_lines, reading}
use Rattle.rules.specs.Answers.{answer, printed, plans}
use Rattle.theorems.specs.TextNumbers.{line_numbers, text_numbers, RefusedBy}
use Rattle.theorems.proofs.Refusals.{Refusals, value, refusal, in_turn, onwards, test_refused, By, refused_by}
use Rattle.theorems.proofs.Numbers.{decimal-length-le}
use Rattle.theorems.proofs.TextPieces.{split_first, split_count}
use Rattle.theorems.proofs.Started.{answer-length}

-- ---- one line: each number that is given is one of a line's

module _ {last place : ℕ} (near : place ≤ last) where
  test : (t : Bool) (n : ℕ) → among n line_numbers ≡ true → Refusals (By line_numbers last) (must t n place)
  test t n l = test_refused t n place (l, near)

  link_refused : (n from to : ℕ) → Refusals (By line_numbers last) (link_verdict n place from to)
  unfolding link_verdict
  link_refused n from to = in_turn (test (ltb from n) 4 refl) (in_turn (test (ltb to n) 4 refl) (test (not (eqb from to)) 5 refl))

  hop_refused : (reached : ℕ) (visited : List ℕ) (l : Option Link) → Refusals (By line_numbers last) (hop place reached visited l)
  hop_refused reached visited none = refusal (refl, near)
  hop_refused reached visited (some l) = in_turn (test (eqb l.from reached) 7 refl) (in_turn (test (not (among l.to visited)) 8 refl) value)

  walk_refused : (net : Network) (reached : ℕ) (visited path : List ℕ) → Refusals (By line_numbers last) (walk net place reached visited path)
  unfolding walk
  walk_refused net reached visited [] = value
  walk_refused net reached visited (l ∷ ls) =
      onwards (hop_refused reached visited (link_at net l)) (λ node e. walk_refused net node (visited ++ (node ∷ [])) ls)

  packet_refused : (net : Network) (source : ℕ) (path : List ℕ) → Refusals (By line_numbers last) (packet_verdict net place source path)
  unfolding packet_verdict
  packet_refused net source path =
      in_turn (test (leb (length path) path_most) 3 refl)
      (in_turn (test (ltb source net.nodes) 4 refl) (in_turn (test (leb 1 (length path)) 15 refl) (walk_refused net source (source ∷ []) path)))

  line_refused : (j : Job) (l : Line) → Refusals (By line_numbers last) (with_line place j l)
  unfolding with_line
  line_refused j (nodes m) = refusal (refl, near)
  line_refused j (link from to) =
      in_turn (test (eqb (length j.sources) 0) 2 refl)
      (in_turn (test (ltb (length j.network.origins) links_most) 3 refl) (in_turn (link_refused j.network.nodes from to) value))
  line_refused j (packet source path) =
      in_turn (test (ltb (length j.sources) packets_most) 3 refl)
      (in_turn (test (leb (length j.hops + length path) hops_most) 3 refl) (in_turn (packet_refused j.network source path) value))
  line_refused j bad = refusal (refl, near)

-- ---- all lines

lines_refused : {last : ℕ} (n : ℕ) (j : Job) (p : List ℕ) (ps : List (List ℕ)) → n + length ps ≤ last
    → Refusals (By line_numbers last) (with_lines n j p ps)
unfolding with_lines
lines_refused n j p [] l = in_turn (test (omega (arith, l)) (eqb (length p) 0) 2 refl) value
lines_refused n j p (q ∷ ps) l = onwards (line_refused (omega (arith, l)) j (line_of p)) (λ k e. lines_refused (suc n) k q ps (omega (arith, l)))

first_refused : {last : ℕ} (l : Line) → 1 ≤ last → Refusals (By line_numbers last) (first_line l)
first_refused (nodes n) h = in_turn (test h (leb 1 n && leb n nodes_most) 3 refl) value
first_refused (link from to) h = refusal (refl, h)
first_refused (packet source path) h = refusal (refl, h)
first_refused bad h = refusal (refl, h)

all_lines_refused : {last : ℕ} (ps : List (List ℕ)) → 1 ≤ last → length ps ≤ last → Refusals (By line_numbers last) (all_lines ps)
all_lines_refused [] h l = refusal (refl, h)
all_lines_refused (p ∷ []) h l = refusal (refl, h)
all_lines_refused (p ∷ q ∷ ps) h l = onwards (first_refused (line_of p) h) (λ j e. lines_refused 2 j q ps (omega (arith, l)))

-- the lines of a text, at one of them
pub text_lines_refused : (text : List ℕ) → RefusedBy line_numbers (length (split line_feed text)) (all_lines (split line_feed text))
text_lines_refused text =
    let (p, ps, e) = split_first line_feed text in
    refused_by (all_lines_refused (split line_feed text) (omega (arith, ap length e)) (omega arith))

-- ---- a text

-- no more pieces than bytes and one
split-length-le : (c : ℕ) (bs : List ℕ) → length (split c bs) ≤ suc (length bs)
split-length-le c bs =
    omega (arith, split_count c bs, sum_le (λ b. bit (eqb b c)) (λ b. 1) bs (λ b m. bit-le-one (eqb b c)), sum_const {A = ℕ} 1 bs)

module _ (text : List ℕ) {last : ℕ} (least : 1 ≤ last) (near : length text ≤ text_most → length (split line_feed text) ≤ last) where
  answer_up_to : Refusals (By text_numbers last) (answer text)
  unfolding answer reading
  answer_up_to = onwards (go (leb (length text) text_most) refl) (λ j e. value)
    where
      of_line : {o : Outcome Job} → Refusals (By line_numbers last) o → Refusals (By text_numbers last) o
      of_line h = record { each = λ {n} e. (or_right (eqb 1 n) _ (h.each e).0, (h.each e).1) }

      go : (t : Bool) → leb (length text) text_most ≡ t → Refusals (By text_numbers last) (must t 1 0 then all_lines (split line_feed text))
      go true e = of_line (all_lines_refused (split line_feed text) least (near (leb-true (length text) text_most e)))
      go false e = refusal (refl, omega arith)

-- at 0 or at a line of the text; what follows the last line feed counts as a line, so that an empty text has one
pub answer_refused : (text : List ℕ) → RefusedBy text_numbers (length (split line_feed text)) (answer text)
answer_refused text = let (p, ps, e) = split_first line_feed text in refused_by (answer_up_to text (omega (arith, ap length e)) (λ short. omega arith))

-- ---- what is printed

printed-length : (o : Outcome (List ℕ)) → ((plan : List ℕ) → o ≡ is plan → length plan ≤ plan_most)
    → Refusals (By text_numbers (suc text_most)) o → length (printed o) ≤ plan_most
unfolding printed line_text fields_text
printed-length (is plan) h k = h plan refl
printed-length (refused n p) h k =
    let two : ltb 99 n ≡ false = among_none (ltb 99) text_numbers n refl (k.each refl).0 in
    let digits = decimal-length-le 1 n (omega (arith, ltb-false 99 n two)) in
    let line = decimal-length-le 4 p (omega (arith, (k.each refl).1)) in
    simp length-append (omega (arith, digits, line))

pub plans-length : (text : List ℕ) → length (plans text) ≤ plan_most
unfolding plans
plans-length text = printed-length (answer text) (answer-length text) (answer_up_to text (omega arith) (λ short. omega (arith, short, split-length-le line_feed text)))
