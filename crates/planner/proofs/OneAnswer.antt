-- Each contract of the planner has one outcome: two answers, with the lists they leave, that meet it are equal.
use Rattle.std.proofs.Common.{◌≡◌, ℕ, ℤ, List, Option, Some, None, Result, refl, sym, ap, ◌∙◌}
use mathlib.Core.Option as maybe
use Rattle.rules.specs.Network.{Job}
use Rattle.rules.specs.Outcome.{Outcome}
use Rattle.rules.specs.Check.{Clash as RuledClash}
use Rattle.job.specs.declared.Job.{Job as Counts}
use Rattle.job.specs.declared.Refusal.{Refusal}
use Rattle.job.proofs.OneAnswer.{verdict_injective, outcome_injective}
use Rattle.job_text.specs.Told.{Lists}
use Rattle.job_text.proofs.OneAnswer.{read_once}
use Rattle.planner.specs.declared.Clash.{Clash}
use Rattle.planner.specs.Told.{found_of, checked_of, led_of, PlannedAs, ReadAndPlannedAs}

pub planned_once : {answer : Outcome (List ℕ)} {v w : Result Unit Refusal} {lent after other : List ℕ} → PlannedAs answer v lent after → PlannedAs answer w lent other → (v ≡ w) × (after ≡ other)
planned_once p q = (verdict_injective _ _ (p.verdict ∙ sym q.verdict), p.list ∙ sym q.list)

pub read_and_planned_once : {outcome : Outcome Job} {r s : Result Counts Refusal} {lent after other : Lists} {starts these those : List ℕ} → ReadAndPlannedAs outcome r lent after starts these → ReadAndPlannedAs outcome s lent other starts those → (r ≡ s) × (after ≡ other) × (these ≡ those)
read_and_planned_once p q = let (told, lists) = read_once p.read q.read in (told, lists, p.planned ∙ sym q.planned)

-- the clash as it is told
abbrev shown : maybe.Option RuledClash → Option Clash
shown maybe.none = None
shown (maybe.some x) = Some (record { later = x.later; earlier = x.earlier; link = x.resource; step = record { 0 = x.step } })

shown-found : (o : Option Clash) → shown (found_of o) ≡ o
shown-found None = refl
shown-found (Some c) = refl

pub checked_injective : (c d : Result (Option Clash) Refusal) → checked_of c ≡ checked_of d → c ≡ d
checked_injective = outcome_injective found_of (λ o p e. sym (shown-found o) ∙ ap shown e ∙ shown-found p)

pub led_injective : (l m : Result ℤ Refusal) → led_of l ≡ led_of m → l ≡ m
led_injective = outcome_injective (λ difference. difference) (λ a b e. e)
