-- Laws of what is refused: a statement about number and place holds of all that an outcome may refuse if it does of each of its parts.
use mathlib.Core.Path.{◌≡◌, refl, sym}
use mathlib.Core.Bool.{Bool, true, false}
use mathlib.Core.List.{List}
use Prim.Native.Nat.{ℕ, ◌≤◌}
use Rattle.counting.specs.Count.{among}
use Rattle.rules.specs.Outcome.{Outcome, is, refused, Verdict, must, ◌then◌, onward}
use Rattle.theorems.specs.TextNumbers.{RefusedBy}
use Rattle.theorems.proofs.Verdicts.{refused_not_is, refused_same}

-- the statement holds of number and place, if the outcome is a refusal
pub record Refusals {A : Type 0} (P : ℕ → ℕ → Type 0) (o : Outcome A) : Type 0 where
  pub each : {n p : ℕ} → o ≡ refused n p → P n p

module _ {A : Type 0} {P : ℕ → ℕ → Type 0} where
  pub value : {a : A} → Refusals P (is a)
  value = record { each = λ e. absurd (refused_not_is (sym e)) }

  pub refusal : {n p : ℕ} → P n p → Refusals {A = A} P (refused n p)
  refusal h = record { each = λ e. let (s, t) = refused_same e in rw (← s, ← t) h }

  pub in_turn : {v : Verdict} {o : Outcome A} → Refusals P v → Refusals P o → Refusals P (v then o)
  in_turn {v = is u} h k = k
  in_turn {v = refused n p} h k = refusal (h.each refl)

pub onwards : {A B : Type 0} {P : ℕ → ℕ → Type 0} {o : Outcome A} {f : A → Outcome B}
    → Refusals P o → ((a : A) → o ≡ is a → Refusals P (f a)) → Refusals P (onward o f)
onwards {o = is a} h k = k a refl
onwards {o = refused n p} h k = refusal (h.each refl)

pub test_refused : {P : ℕ → ℕ → Type 0} (t : Bool) (n p : ℕ) → P n p → Refusals P (must t n p)
test_refused true n p h = value
test_refused false n p h = refusal h

-- one of the numbers, and a place up to `last`
abbrev pub By : List ℕ → ℕ → ℕ → ℕ → Type 0
By numbers last n p = (among n numbers ≡ true) × (p ≤ last)

pub refused_by : {A : Type 0} {numbers : List ℕ} {last : ℕ} {o : Outcome A} → Refusals (By numbers last) o → RefusedBy numbers last o
refused_by h = record { number = λ e. (h.each e).0; place = λ e. (h.each e).1 }
