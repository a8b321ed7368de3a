-- What the planner writes obeys demands 2 and 3: the theorems of the rules, of the places it wrote.
use mathlib.Core.Path.{◌≡◌, refl, sym, ap, ◌∙◌}
use mathlib.Core.List.{List}
use Prim.Native.Nat.{ℕ, ◌≤◌}
use Rattle.std.specs.Prelude.{Ok}
use lib.ListN.{length, take}
use lib.Seq.{take-append_seam, take-take}
use Rattle.rules.specs.Network.{Job, paths, packets}
use Rattle.rules.specs.Outcome.{Outcome, is, refused, fine, onward}
use Rattle.rules.specs.Greedy.{greedy}
use Rattle.rules.specs.Plain.{Takes, Starts}
use Rattle.rules.specs.Tables.{tables}
use Rattle.rules.specs.Answers.{lent_after, planned}
use Rattle.theorems.specs.Demands.{Bounded}
use Rattle.theorems.proofs.Verdicts.{refused_not_is}
use Rattle.theorems.proofs.AnswersInARow.{planned-iff}
use Rattle.theorems.proofs.Accepted.{tables-fine-iff, length-packets}
use Rattle.theorems.proofs.Starts.{length-greedy, greedy-Starts, greedy-front-packets}
use Rattle.theorems.proofs.Demands.{tables_bounded}
use Rattle.planner.specs.Told.{PlannedAs}

-- the planner said that all is fine
module _ (j : Job) (room : ℕ) (lent after : List ℕ) (p : PlannedAs (planned j room) (Ok tt) lent after) where
  pub planned-greedy : (tables j ≡ fine) × (planned j room ≡ is (greedy j))
  planned-greedy = go (planned j room) refl p.verdict
    where
      go : (o : Outcome (List ℕ)) → planned j room ≡ o → fine ≡ onward o (λ starts. fine) → (tables j ≡ fine) × (planned j room ≡ is (greedy j))
      go (is ss) e v = let (t, fits, same) = (planned-iff j room ss).0 e in (t, rw same at e)
      go (refused n q) e v = absurd (refused_not_is (sym v))

  -- the first places hold the greedy starts
  pub plan_writes_greedy : take (length (paths j)) after ≡ greedy j
  unfolding lent_after
  plan_writes_greedy =
      let job = (tables-fine-iff j).0 planned-greedy.0 in
      let count : length (greedy j) ≡ length (paths j) = length-greedy j ∙ length-packets j job in
      rw (p.list, planned-greedy.1, ← count) (take-append_seam (greedy j) _)

  pub plan_writes_starts : Starts (Takes j.network) (packets j) (take (length (paths j)) after)
  plan_writes_starts = rw plan_writes_greedy (greedy-Starts j)

  -- and these obey the bounds
  pub plan_bounded : Bounded j (greedy j)
  plan_bounded = tables_bounded j planned-greedy.0

-- what is listed later moves nothing: two plans on one network whose first n packets are alike have their first n starts alike
pub plan_front : (j k : Job) (room other : ℕ) {lent after lent' after' : List ℕ}
    → PlannedAs (planned j room) (Ok tt) lent after → PlannedAs (planned k other) (Ok tt) lent' after'
    → (n : ℕ) → n ≤ length (paths j) → n ≤ length (paths k) → j.network ≡ k.network → take n (packets j) ≡ take n (packets k)
    → take n after ≡ take n after'
plan_front j k room other p q n l m same e = front j room p l ∙ greedy-front-packets j k n same e ∙ sym (front k other q m)
  where
    front : (i : Job) (places : ℕ) {lent after : List ℕ} → PlannedAs (planned i places) (Ok tt) lent after → n ≤ length (paths i) → take n after ≡ take n (greedy i)
    front i places {lent} {after} w h = sym (take-take n (length (paths i)) after h) ∙ ap (take n) (plan_writes_greedy i places lent after w)
