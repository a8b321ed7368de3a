-- What the arms of a `?` on a verdict make of what follows it in the rules.
use Rattle.std.proofs.Common.{◌≡◌, ℕ}
use Rattle.rules.specs.Outcome.{Outcome, is, refused, Verdict, ◌then◌}

-- a check that refuses is the whole answer; after one that does not, what follows is
pub refusal_stays : {A : Type 0} {number place : ℕ} {v : Verdict} → refused number place ≡ v → (o : Outcome A) → refused number place ≡ (v then o)
refusal_stays e o = rw (← e)

pub after_fine : {A : Type 0} {u : Unit} {v : Verdict} → is u ≡ v → (o : Outcome A) → (v then o) ≡ o
after_fine e o = rw (← e)
