-- What check and lead answer, after the verdict on the job with its starts.
use mathlib.Core.Path.{◌≡◌, sym, ◌∙◌}
use mathlib.Core.List.{List, []}
use mathlib.Core.Option.{Option}
use Prim.Native.Nat.{ℕ}
use borrow.Author.Tests.{eq-eqb, ne_eqb}
use Rattle.rules.specs.Network.{Job, paths_from, paths}
use Rattle.rules.specs.Travel.{one_step, delay_of}
use Rattle.rules.specs.Outcome.{is, refused, fine}
use Rattle.rules.specs.Claims.{placed_by}
use Rattle.rules.specs.Check.{Clash, clash_after}
use Rattle.rules.specs.Lead.{lead_of, entry_at, lead}
use Rattle.rules.specs.Answers.{started_verdict, checked, led}
use Rattle.theorems.specs.Jobs.{IsStarted}
use Rattle.theorems.proofs.Accepted.{job_claims}
use Rattle.theorems.proofs.Started.{started_fine-iff}
use Rattle.job.specs.declared.Refusal.{Refusal}
use Rattle.job.specs.Told.{refusal_of}
use Rattle.job.proofs.AfterVerdict.{refusal_stays, after_fine}
use Rattle.planner.specs.PacketsInLists.{path_claims}

module _ (j : Job) (starts : List ℕ) where
  pub checked_refused : (r : Refusal) → refusal_of r ≡ started_verdict j starts → refusal_of r ≡ checked j starts
  unfolding checked
  checked_refused r e = refusal_stays e _

  pub led_refused : (r : Refusal) → refusal_of r ≡ started_verdict j starts → (a b link : ℕ) → refusal_of r ≡ led j starts a b link
  unfolding led
  led_refused r e a b link = refusal_stays e _

  module _ (e : fine ≡ started_verdict j starts) where
    pub fine_started : IsStarted j starts
    fine_started = (started_fine-iff j starts).0 (sym e)

    pub checked-found : {found : Option Clash} → found ≡ clash_after [] (placed_by path_claims starts (paths_from 0 j.stops j.hops)) → is found ≡ checked j starts
    unfolding checked paths delay_of
    checked-found same = rw same (sym (after_fine e _ ∙ rw (job_claims j fine_started.job)))

    module _ (a b link : ℕ) where
      pub led_itself : a ≡ b → refused 13 0 ≡ led j starts a b link
      unfolding led lead
      led_itself p = sym (after_fine e _ ∙ rw (eq-eqb a b p))

      pub led_apart : (a ≡ b → ⊥) → {x y : Option ℕ} → x ≡ entry_at one_step starts (paths_from 0 j.stops j.hops) link a → y ≡ entry_at one_step starts (paths_from 0 j.stops j.hops) link b → lead_of x y ≡ led j starts a b link
      unfolding led lead paths delay_of
      led_apart n p q = sym (after_fine e _ ∙ rw (ne_eqb a b n, ← p, ← q))
