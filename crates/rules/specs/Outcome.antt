-- Document 01, "Refusals and their order": every answer is a value, or one refusal with its number and place.
use Rattle.std.specs.Prelude.{Bool, true, false, ℕ}

pub data Outcome (A : Type 0) : Type 0 where
  is : A → Outcome A
  refused : (number place : ℕ) → Outcome A

-- whether something is refused, with no value besides
abbrev pub Verdict : Type 0
Verdict = Outcome Unit

-- nothing is refused
abbrev pub fine : Verdict
fine = is tt

-- the refusal, where the test fails
abbrev pub must : Bool → ℕ → ℕ → Verdict
must true number place = is tt
must false number place = refused number place

infixr 20 ◌then◌
-- a check, and after it, if it refused nothing, what follows
abbrev pub ◌then◌ : {A : Type 0} → Verdict → Outcome A → Outcome A
is u then o = o
refused number place then o = refused number place

-- what follows from a value; a refusal stays
abbrev pub onward : {A B : Type 0} → Outcome A → (A → Outcome B) → Outcome B
onward (is a) f = f a
onward (refused number place) f = refused number place
