-- The check of a job with its starts, and that a greedy plan is clear.
use mathlib.Core.Path.{◌≡◌}
use mathlib.Core.List.{List}
use mathlib.Core.Logic.{◌↔◌}
use mathlib.Core.Option.{none, some}
use Prim.Native.Nat.{ℕ}
use native.Mathlib.Omega.{arith}
use Rattle.rules.specs.Network.{Job, packets}
use Rattle.rules.specs.Outcome.{is, fine}
use Rattle.rules.specs.Tables.{tables}
use Rattle.rules.specs.Resource.{Resource}
use Rattle.rules.specs.Claims.{claims}
use Rattle.rules.specs.Greedy.{greedy}
use Rattle.rules.specs.Check.{Clash}
use Rattle.rules.specs.Plain.{Takes, ConflictAt, Shown}
use Rattle.rules.specs.Answers.{started_verdict, checked}
use Rattle.theorems.proofs.Verdicts.{is_iff, then_is_iff}
use Rattle.theorems.proofs.Conflicts.{claims_mean}
use Rattle.theorems.proofs.Starts.{greedy_no_conflict}
use Rattle.theorems.proofs.Checks.{check_clear_iff, check_shows}
use Rattle.theorems.proofs.Started.{greedy_started}

-- clear exactly if the starts are accepted and no two packets take one resource in one step
pub checked_clear_iff : (j : Job) (starts : List ℕ) → (checked j starts ≡ is none) ↔ ((started_verdict j starts ≡ fine) × ((k at e : ℕ) (resource : Resource) (step : ℕ) → ConflictAt (Takes j.network) (packets j) starts k at e resource step → ⊥))
unfolding checked claims
checked_clear_iff j starts = (
  λ e. let (v, c) = (then_is_iff (started_verdict j starts) _ none).0 e in (v, (check_clear_iff (claims_mean j.network) (packets j) starts).0 (is_iff.0 c)),
  λ h. (then_is_iff (started_verdict j starts) _ none).1 (h.0, is_iff.1 ((check_clear_iff (claims_mean j.network) (packets j) starts).1 h.1)),
)

pub checked_shows : (j : Job) (starts : List ℕ) (c : Clash) → checked j starts ≡ is (some c) → Shown (Takes j.network) (packets j) starts c.later c.earlier c.resource c.step
unfolding checked claims
checked_shows j starts c e = check_shows (claims_mean j.network) (packets j) starts c (is_iff.0 ((then_is_iff (started_verdict j starts) _ (some c)).0 e).1)

pub checked-greedy_clear : (j : Job) → tables j ≡ fine → checked j (greedy j) ≡ is none
checked-greedy_clear j e =
    (checked_clear_iff j (greedy j)).1 (
      greedy_started j e,
      λ k at i resource step c.
          greedy_no_conflict j k i c.later.packet c.earlier.packet c.later.start c.earlier.start (λ q. omega (arith, c.before)) c.later.is_packet c.earlier.is_packet
          c.later.is_start c.earlier.is_start (record { at = at; other_at = c.other_at; resource = resource; step = step; one = c.later.takes; other = c.earlier.takes }),
    )
