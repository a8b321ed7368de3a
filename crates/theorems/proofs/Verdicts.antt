-- Laws of verdicts and outcomes: what an answer that is no refusal says of the tests it is made of. Those that take an
-- equivalence go on to what a test or a check means, so that a whole check is read off part by part.
use mathlib.Core.Path.{◌≡◌, refl, ap}
use mathlib.Core.Bool.{Bool, true, false, not, ◌&&◌, false≢true, true≢false}
use mathlib.Core.Logic.Iff
use mathlib.Core.Logic.{◌↔◌}
use Prim.Native.Nat.{ℕ, ◌≤◌}
use native.Mathlib.Omega.{arith}
use lib.Dec.{eqb, leb}
use borrow.Author.Tests.{leb-true, le-leb, eqb-true, eq-eqb}
use Rattle.counting.proofs.Tests.{never_both, false_of_not_true, and_left, and_right, and_intro}
use Rattle.rules.specs.Outcome.{Outcome, is, refused, Verdict, fine, must, ◌then◌, onward}

-- tests
pub leb_iff : (a b : ℕ) → (leb a b ≡ true) ↔ (a ≤ b)
leb_iff a b = (leb-true a b, le-leb a b)

pub eqb_iff : (a b : ℕ) → (eqb a b ≡ true) ↔ (a ≡ b)
eqb_iff a b = (eqb-true a b, eq-eqb a b)

pub not_true_iff : (t : Bool) → (not t ≡ true) ↔ (t ≡ false)
not_true_iff true = (λ e. absurd (false≢true e), λ e. absurd (true≢false e))
not_true_iff false = (λ e. refl, λ e. refl)

pub not_iff : {t : Bool} {A : Type 0} → (t ≡ true) ↔ A → (not t ≡ true) ↔ (A → ⊥)
not_iff {t} h = Iff.trans (not_true_iff t) (λ e a. never_both t (h.1 a) e, λ n. false_of_not_true t (λ e. n (h.0 e)))

pub and_iff : {s t : Bool} {A B : Type 0} → (s ≡ true) ↔ A → (t ≡ true) ↔ B → ((s && t) ≡ true) ↔ (A × B)
and_iff {s} {t} h k = Iff.trans (λ e. (and_left s t e, and_right s t e), λ e. and_intro s t e.0 e.1) (Iff.and h k)

-- verdicts
pub refused_not_is : {A : Type 0} {n p : ℕ} {a : A} → refused n p ≡ is a → ⊥
refused_not_is e = let z : ◌≡◌ {A = ℕ} 0 1 = cc in omega arith

pub refused_same : {A : Type 0} {n m k l : ℕ} → ◌≡◌ {A = Outcome A} (refused n m) (refused k l) → (n ≡ k) × (m ≡ l)
refused_same e = (cc, cc)

-- a refusal is the same whatever value it stands for
pub refused_for : {A B : Type 0} {n m k l : ℕ} → ◌≡◌ {A = Outcome A} (refused n m) (refused k l) → ◌≡◌ {A = Outcome B} (refused n m) (refused k l)
refused_for e = cc

pub is_iff : {A : Type 0} {a b : A} → (is a ≡ is b) ↔ (a ≡ b)
is_iff {A} = (λ e. cc, ap {B = Outcome A} is)

pub must-fine-iff : (t : Bool) (n p : ℕ) → (must t n p ≡ fine) ↔ (t ≡ true)
must-fine-iff true n p = (λ e. refl, λ e. refl)
must-fine-iff false n p = (λ e. absurd (refused_not_is e), λ e. absurd (false≢true e))

pub then_is_iff : {A : Type 0} (v : Verdict) (o : Outcome A) (a : A) → (v then o ≡ is a) ↔ ((v ≡ fine) × (o ≡ is a))
then_is_iff (is u) o a = (λ e. (refl, e), λ e. e.1)
then_is_iff (refused n p) o a = (λ e. absurd (refused_not_is e), λ e. absurd (refused_not_is e.0))

pub must-iff : {t : Bool} {A : Type 0} (n p : ℕ) → (t ≡ true) ↔ A → (must t n p ≡ fine) ↔ A
must-iff {t} n p h = Iff.trans (must-fine-iff t n p) h

pub then_iff : {v : Verdict} {A B C : Type 0} {o : Outcome C} {c : C} → (v ≡ fine) ↔ A → (o ≡ is c) ↔ B → (v then o ≡ is c) ↔ (A × B)
then_iff h k = Iff.trans (then_is_iff _ _ _) (Iff.and h k)

pub onward_is : {A B : Type 0} (o : Outcome A) (f : A → Outcome B) {b : B} → onward o f ≡ is b → (a : A) × (o ≡ is a) × (f a ≡ is b)
onward_is (is a) f e = (a, refl, e)
onward_is (refused n p) f e = absurd (refused_not_is e)

pub onward_of : {A B : Type 0} {o : Outcome A} {a : A} → o ≡ is a → (f : A → Outcome B) → onward o f ≡ f a
onward_of e f = ap (λ o. onward o f) e

pub onward_then : {A B : Type 0} (v : Verdict) (o : Outcome A) (f : A → Outcome B) → onward (v then o) f ≡ (v then onward o f)
onward_then (is u) o f = refl
onward_then (refused n p) o f = refl
