-- A text cut after a line is accepted where the whole is, and what is put after a job's text moves none of its packets.
use mathlib.Core.Path.{◌≡◌, refl, sym, ap, ◌∙◌}
use mathlib.Core.List.{List, [], ◌∷◌, ◌++◌}
use Prim.Native.Nat.{ℕ, suc, ◌+◌}
use native.Mathlib.Omega.{arith}
use lib.ListN.{length, take, length-append}
use lib.Seq.{take-length, take_all}
use Rattle.rules.specs.Network.{Job}
use Rattle.rules.specs.Claims.{claims}
use Rattle.rules.specs.Outcome.{Outcome, is, refused, onward}
use Rattle.rules.specs.Greedy.{greedy}
use Rattle.rules.specs.Bytes.{line_feed, split}
use Rattle.rules.specs.JobText.{line_of, with_line, with_lines, first_line, all_lines, reading}
use Rattle.theorems.specs.TextRest.{with_rest}
use Rattle.theorems.proofs.Verdicts.{refused_not_is, is_iff, eqb_iff, must-iff, then_iff, onward_is}
use Rattle.theorems.proofs.TextPieces.{Ended, split_first, split-append, split-ended}
use Rattle.theorems.proofs.TextLinesAccepted.{reading_lines_iff}
use Rattle.theorems.proofs.TextJobs.{reading_job, text_front}
use Rattle.theorems.proofs.Starts.{length-greedy-claims, greedy-front}

-- ---- lines are read one after another

read_cons : (n : ℕ) (j : Job) (p : List ℕ) (ps : List (List ℕ)) (q : List ℕ) (qs : List (List ℕ)) → with_lines n j p (ps ++ q ∷ qs) ≡ onward (with_line n j (line_of p)) (λ k. with_rest (suc n) k (ps ++ q ∷ qs))
unfolding with_lines
read_cons n j p [] q qs = refl
read_cons n j p (r ∷ ps) q qs = refl

all_cons : (p : List ℕ) (ps : List (List ℕ)) (q : List ℕ) (qs : List (List ℕ)) → all_lines (p ∷ (ps ++ q ∷ qs)) ≡ onward (first_line (line_of p)) (λ k. with_rest 2 k (ps ++ q ∷ qs))
all_cons p [] q qs = refl
all_cons p (r ∷ ps) q qs = refl

-- what follows some lines is read from the job that they say, if they say one
read_append : (ps : List (List ℕ)) (o : Outcome Job) (n m : ℕ) (q : List ℕ) (qs : List (List ℕ)) → n + length ps ≡ m → onward o (λ j. with_rest n j (ps ++ q ∷ qs)) ≡ onward (onward o (λ j. with_rest n j (Ended ps))) (λ j. with_lines m j q qs)
unfolding with_lines
read_append [] (refused number place) n m q qs e = refl
read_append [] (is j) n m q qs e = let same : m ≡ n = omega arith in rw same
read_append (p ∷ ps) (refused number place) n m q qs e = refl
read_append (p ∷ ps) (is j) n m q qs e =
    rw (read_cons n j p ps q qs, read_cons n j p ps [] []) (read_append ps (with_line n j (line_of p)) (suc n) m q qs (omega arith))

all_append : (p : List ℕ) (ps : List (List ℕ)) (q : List ℕ) (qs : List (List ℕ)) → all_lines (p ∷ (ps ++ q ∷ qs)) ≡ onward (all_lines (p ∷ Ended ps)) (λ j. with_lines (2 + length ps) j q qs)
all_append p ps q qs = rw (all_cons p ps q qs, all_cons p ps [] []) (read_append ps (first_line (line_of p)) 2 (2 + length ps) q qs refl)

-- ---- texts of whole lines

-- a line or more, each ended, and nothing left
abbrev Whole : List (List ℕ) → Type 0
Whole pieces = (p : List ℕ) × (ps : List (List ℕ)) × (pieces ≡ p ∷ Ended ps)

lines_ended : (n : ℕ) (j : Job) (p : List ℕ) (ps : List (List ℕ)) (k : Job) → with_lines n j p ps ≡ is k → (qs : List (List ℕ)) × (p ∷ ps ≡ Ended qs)
unfolding with_lines
lines_ended n j p [] k e = ([], ap (λ (q : List ℕ). q ∷ []) (no_length p ((then_iff (must-iff 2 n (eqb_iff (length p) 0)) is_iff).0 e).0))
  where
    no_length : (p : List ℕ) → length p ≡ 0 → p ≡ []
    no_length [] e = refl
    no_length (b ∷ bs) e = absurd (omega arith)
lines_ended n j p (q ∷ ps) k e =
    let (i, a, b) = onward_is (with_line n j (line_of p)) (λ i. with_lines (suc n) i q ps) e in
    let (qs, r) = lines_ended (suc n) i q ps k b in
    (p ∷ qs, ap (λ (qs : List (List ℕ)). p ∷ qs) r)

-- accepted lines are whole
accepted_whole : (pieces : List (List ℕ)) (j : Job) → all_lines pieces ≡ is j → Whole pieces
accepted_whole [] j e = absurd (refused_not_is e)
accepted_whole (p ∷ []) j e = absurd (refused_not_is e)
accepted_whole (p ∷ q ∷ ps) j e =
    let (i, a, b) = onward_is (first_line (line_of p)) (λ i. with_lines 2 i q ps) e in
    let (qs, r) = lines_ended 2 i q ps j b in
    (p, qs, ap (λ (qs : List (List ℕ)). p ∷ qs) r)

-- a text whose last byte is a line feed is one of whole lines
feed_whole : (f : List ℕ) → Whole (split line_feed (f ++ (line_feed ∷ [])))
feed_whole f = let (p, ps, e) = split_first line_feed f in (p, ps, rw (split-ended line_feed f, e))

-- the job of a text's front, and what its packets claim in front of what those of the whole text claim
record Front (front : List ℕ) (j : Job) : Type 0 where
  job : Job
  says : reading front ≡ is job
  front_claims : take (length (claims job)) (claims j) ≡ claims job

front_of : (front more : List ℕ) (j : Job) → Whole (split line_feed front) → reading (front ++ more) ≡ is j → Front front j
front_of front more j (p, ps, whole) e =
    let (q, qs, first) = split_first line_feed more in
    let pieces : split line_feed (front ++ more) ≡ p ∷ (ps ++ q ∷ qs) = split-append line_feed front more (p ∷ ps) whole ∙ ap (λ (qs : List (List ℕ)). p ∷ (ps ++ qs)) first in
    let (short, lines) = (reading_lines_iff (front ++ more) j).0 e in
    let (i, read, on) = onward_is (all_lines (p ∷ Ended ps)) _ (sym (all_append p ps q qs) ∙ (rw pieces at lines)) in
    let says = (reading_lines_iff front i).1 (omega (arith, length-append front more), rw whole read) in
    record { job = i; says = says; front_claims = text_front (2 + length ps) i q qs j (reading_job front i says) on }

-- ---- what a text goes on with moves nothing

-- the front of an accepted text, cut after a line, is accepted
pub reading-front : (front f more : List ℕ) (j : Job) → front ≡ f ++ (line_feed ∷ []) → reading (front ++ more) ≡ is j → (i : Job) × (reading front ≡ is i)
reading-front front f more j last e = let r = front_of front more j (rw last (feed_whole f)) e in (r.job, r.says)

-- in an accepted text that begins with an accepted text its packets, which stand in front, claim what they claim alone
pub claims_of-front : (front more : List ℕ) (i j : Job) → reading front ≡ is i → reading (front ++ more) ≡ is j → take (length (claims i)) (claims j) ≡ claims i
claims_of-front front more i j e f =
    let r = front_of front more j (accepted_whole _ i ((reading_lines_iff front i).0 e).1) f in
    let same : r.job ≡ i = is_iff.0 (sym r.says ∙ e) in
    rw (← same) r.front_claims

-- and gives them the starts that they have alone
pub starts_of-front : (front more : List ℕ) (i j : Job) → reading front ≡ is i → reading (front ++ more) ≡ is j → take (length (greedy i)) (greedy j) ≡ greedy i
starts_of-front front more i j e f =
    rw (length-greedy-claims i) (greedy-front j i (length (claims i)) (claims_of-front front more i j e f ∙ sym (take-length (claims i))) ∙ take_all (length (claims i)) (greedy i) (omega (arith, length-greedy-claims i)))

-- so two accepted texts with one front, cut after a line, give its packets the same starts
pub starts_of_common_front : (front f more other : List ℕ) (j k : Job) → front ≡ f ++ (line_feed ∷ []) → reading (front ++ more) ≡ is j → reading (front ++ other) ≡ is k
    → (i : Job) × (reading front ≡ is i) × (take (length (greedy i)) (greedy j) ≡ greedy i) × (take (length (greedy i)) (greedy k) ≡ greedy i)
starts_of_common_front front f more other j k last a b =
    let (i, e) = reading-front front f more j last a in
    (i, e, starts_of-front front more i j e a, starts_of-front front other i k e b)
