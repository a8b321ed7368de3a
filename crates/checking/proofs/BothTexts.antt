-- From what the job's reader leaves in its lists to what the two texts come to.
use mathlib.Core.Path.{◌≡◌, refl, ap, ◌∙◌}
use mathlib.Core.Bool.{true}
use mathlib.Core.List.{List}
use Prim.Native.Nat.{ℕ, ◌≤◌}
use native.Mathlib.Omega.{arith}
use lib.ListN.{length, replicate, length-replicate}
use borrow.Author.Tests.{le-leb}
use Rattle.std.specs.Prelude.{Option, Result, Ok, Err}
use Rattle.std.specs.Result.{MatchResult, IsErrAnd}
use Rattle.rules.specs.Sizes.{packets_most}
use Rattle.rules.specs.Network.{Job}
use Rattle.rules.specs.Outcome.{Outcome, is, refused, onward}
use Rattle.rules.specs.JobText.{reading}
use Rattle.rules.specs.PlanBack.{read_back}
use Rattle.rules.specs.Answers.{in_room, plan_read_in, checked}
use Rattle.rules.specs.CheckedTexts.{of_plan, of_job, checked_texts}
use Rattle.theorems.proofs.Verdicts.{refused_not_is, refused_same}
use Rattle.theorems.proofs.TextJobs.{reading_job}
use Rattle.theorems.proofs.Started.{started_fine-iff}
use Rattle.theorems.proofs.PlanBackExact.{read_back_started}
use Rattle.job.specs.declared.Job.{Job as Counts}
use Rattle.job.specs.declared.Refusal.{Refusal}
use Rattle.job.specs.Told.{refusal_of}
use Rattle.planner.specs.declared.Clash.{Clash}
use Rattle.planner.specs.Told.{checked_of}
use Rattle.job_text.specs.Told.{Lists, roomy, read_in, counts_of, ReadAs}
use Rattle.job_text.specs.SoFar.{so_far}
use Rattle.job_text.proofs.Accepts.{read_stands, read_in_lem}
use Rattle.checking.specs.declared.Refused.{Refused}
use Rattle.checking.specs.declared.Refused.TheVariants.{Job as JobRefused, Plan as PlanRefused}
use Rattle.checking.specs.Told.{texts_of}

-- an answer whose refusal is said to be that of one of the texts
abbrev pub Of : {A : Type 0} → (Refusal → Refused) → Result A Refusal → Result A Refused → Type 0
Of text told answer = MatchResult told (λ a. answer ≡ Ok a) (λ r. IsErrAnd answer (λ e. e ≡ text r))

pub job_read : (told : Result Counts Refusal) {answer : Result Counts Refused} {counts : Counts} → Of JobRefused told answer → answer ≡ Ok counts → told ≡ Ok counts
job_read (Ok counts) of e = cc
job_read (Err r) {answer} {counts} of e = absurd (rw e at of)

pub job_not_read : (told : Result Counts Refusal) {answer : Result Counts Refused} {e : Refused} → Of JobRefused told answer → answer ≡ Err e
    → (r : Refusal) × (told ≡ Err r) × (e ≡ JobRefused r)
job_not_read (Ok counts) of e = absurd (cc)
job_not_read (Err r) of e = (r, refl, rw e at of)

pub of_the_plan : (told : Result (Option Clash) Refusal) (answer : Result (Option Clash) Refused) → Of PlanRefused told answer
    → texts_of answer ≡ of_plan (checked_of told)
of_the_plan (Ok found) answer of = ap texts_of of
of_the_plan (Err r) (Ok found) of = absurd of
of_the_plan (Err r) (Err refusal) of = rw of refl

module _ (job plan : List ℕ) {lent after : Lists} (h : roomy lent ≡ true) where
  pub job_refused : (r : Refusal) → ReadAs (read_in job lent) (Err r) lent after → texts_of (Err (JobRefused r)) ≡ checked_texts job plan
  unfolding checked_texts
  job_refused r a = go (reading job) (rw (read_in_lem job lent h) at a.answer)
    where
      go : (o : Outcome Job) → refusal_of r ≡ onward o (λ j. is (counts_of j)) → texts_of (Err (JobRefused r)) ≡ of_job o plan
      go (is j) e = absurd (refused_not_is e)
      go (refused n p) e = let (x, y) = refused_same e in rw (x, y)

  module _ {counts : Counts} (a : ReadAs (read_in job lent) (Ok counts) lent after) (places : ℕ) (fits : packets_most ≤ places) where
    -- the list of starts has room for those of every job
    room_for_starts : (j : Job) → reading job ≡ is j → plan_read_in j plan places ≡ read_back j plan
    unfolding plan_read_in in_room
    room_for_starts j e = go (read_back j plan) refl
      where
        go : (o : Outcome (List ℕ)) → read_back j plan ≡ o → onward o (λ starts. in_room starts places) ≡ o
        go (is ss) f =
            let count = ((started_fine-iff j ss).0 (read_back_started j plan ss f)).count in
            rw (le-leb (length ss) places (omega (arith, count, (reading_job job j e).few_packets, fits)))
        go (refused n p) f = refl

    -- the check of the plan for the job that was read
    pub plan_checked : (j : Job) → j ≡ so_far counts after → (told : Result (Option Clash) Refusal)
        → checked_of told ≡ onward (plan_read_in j plan places) (λ starts. checked j starts) → of_plan (checked_of told) ≡ checked_texts job plan
    unfolding checked_texts
    plan_checked j same told e =
        let said = read_stands job a in
        let its : of_plan (checked_of told) ≡ of_plan (onward (plan_read_in j plan places) (λ starts. checked j starts)) = ap of_plan e in
        its ∙ rw (same, room_for_starts _ said, said)

-- an array of starts has room for those of every job
pub places : packets_most ≤ length {A = ℕ} (replicate packets_most 0)
places = let n : length {A = ℕ} (replicate packets_most 0) ≡ packets_most = length-replicate {A = ℕ} packets_most 0 in rw n (omega arith)
