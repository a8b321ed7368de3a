-- A job's text and a plan's text, checked: what each of the three answers means, and that after the readers nothing is refused. And
-- what `plan` prints, `check` clears.
use mathlib.Core.Path.{◌≡◌, refl}
use mathlib.Core.List.{List, []}
use mathlib.Core.Logic.Iff
use mathlib.Core.Logic.{◌↔◌}
use mathlib.Core.Option.{Option, none, some}
use Prim.Native.Nat.{ℕ}
use Rattle.rules.specs.Network.{Job, packets}
use Rattle.rules.specs.Outcome.{Outcome, is, refused, onward}
use Rattle.rules.specs.Resource.{Resource}
use Rattle.rules.specs.Claims.{claims, placed}
use Rattle.rules.specs.Greedy.{greedy}
use Rattle.rules.specs.Check.{Clash, clash_after}
use Rattle.rules.specs.Plain.{Takes, ConflictAt, Shown}
use Rattle.rules.specs.JobText.{reading}
use Rattle.rules.specs.PlanText.{text_of_plan}
use Rattle.rules.specs.PlanBack.{read_back}
use Rattle.rules.specs.Answers.{checked, answer, printed, plans}
use Rattle.rules.specs.CheckedTexts.{TextsChecked, found, job_refused, plan_refused, of_plan, of_job, checked_texts, clear_text, checks}
use Rattle.theorems.specs.TextPairs.{TextPair}
use Rattle.theorems.proofs.TextJobs.{reading_accepted}
use Rattle.theorems.proofs.TextExact.{reading-iff}
use Rattle.theorems.proofs.Started.{started_fine-iff, greedy_started}
use Rattle.theorems.proofs.Checked.{checked_clear_iff, checked_shows, checked-greedy_clear}
use Rattle.theorems.proofs.PlanBackExact.{read_back_started, plan_reads_back, read_back_exactly}

-- what each answer says of the two texts
abbrev Says : (job plan : List ℕ) → TextsChecked → Type 0
Says job plan (found o) = (j : Job) × (ss : List ℕ) × (reading job ≡ is j) × (read_back j plan ≡ is ss) × (checked j ss ≡ is o)
Says job plan (job_refused n p) = reading job ≡ refused n p
Says job plan (plan_refused n p) = (j : Job) × (reading job ≡ is j) × (read_back j plan ≡ refused n p)

-- the check refuses no starts that the plan's reader accepts
checked_read : (j : Job) (plan ss : List ℕ) → read_back j plan ≡ is ss → checked j ss ≡ is (clash_after [] (placed ss (claims j)))
unfolding checked
checked_read j plan ss e = rw (read_back_started j plan ss e)

module _ (job plan : List ℕ) where
  says : Says job plan (checked_texts job plan)
  unfolding checked_texts
  says = by_job (reading job) refl
    where
      by_plan : (j : Job) → reading job ≡ is j → (o : Outcome (List ℕ)) → read_back j plan ≡ o → Says job plan (of_plan (onward o (λ ss. checked j ss)))
      by_plan j e (is ss) f = let c = checked_read j plan ss f in rw c (j, ss, e, f, c)
      by_plan j e (refused n p) f = (j, e, f)

      by_job : (o : Outcome Job) → reading job ≡ o → Says job plan (of_job o plan)
      by_job (is j) e = by_plan j e (read_back j plan) refl
      by_job (refused n p) e = e

  said : (t : TextsChecked) → Says job plan t → checked_texts job plan ≡ t
  unfolding checked_texts
  said (found o) (j, ss, e, f, c) = rw (e, f, c)
  said (job_refused n p) e = rw e
  said (plan_refused n p) (j, e, f) = rw (e, f)

  texts_iff : (t : TextsChecked) → (checked_texts job plan ≡ t) ↔ Says job plan t
  texts_iff t = (λ e. rw e at says, said t)

  -- the job is refused exactly as its reader refuses it, whatever the plan
  pub texts_job_refused_iff : (n p : ℕ) → (checked_texts job plan ≡ job_refused n p) ↔ (reading job ≡ refused n p)
  texts_job_refused_iff n p = texts_iff (job_refused n p)

  -- the plan is refused exactly as its reader refuses it, for the job that an accepted text says
  pub texts_plan_refused_iff : (n p : ℕ)
      → (checked_texts job plan ≡ plan_refused n p) ↔ ((j : Job) × (reading job ≡ is j) × (read_back j plan ≡ refused n p))
  texts_plan_refused_iff n p = texts_iff (plan_refused n p)

  -- and else the answer is what the check finds: it refuses nothing that the two readers accepted
  pub texts_found-iff : (o : Option Clash)
      → (checked_texts job plan ≡ found o) ↔ ((j : Job) × (ss : List ℕ) × (reading job ≡ is j) × (read_back j plan ≡ is ss) × (checked j ss ≡ is o))
  texts_found-iff o = texts_iff (found o)

  -- ---- in plain words

  -- both texts are accepted exactly if they are those of an accepted job and of its plan with starts in time
  pub texts_read_iff : (j : Job) (ss : List ℕ) → ((reading job ≡ is j) × (read_back j plan ≡ is ss)) ↔ TextPair j ss job plan
  texts_read_iff j ss = (
    λ (e, f).
        let (is_job, job_written, short) = (reading-iff job j).0 e in
        let (started, plan_written) = (read_back_exactly j plan ss).0 f in
        record { started = (started_fine-iff j ss).0 started; job_written = job_written; job_short = short; plan_written = plan_written },
    λ t. (
      (reading-iff job j).1 (t.started.job, t.job_written, t.job_short),
      (read_back_exactly j plan ss).1 ((started_fine-iff j ss).1 t.started, t.plan_written),
    ),
  )

  -- clear exactly if the texts are such, and no two packets take one resource in one step
  pub texts_clear_iff : (checked_texts job plan ≡ found none)
      ↔ ((j : Job) × (ss : List ℕ) × TextPair j ss job plan
      × ((k at e : ℕ) (resource : Resource) (step : ℕ) → ConflictAt (Takes j.network) (packets j) ss k at e resource step → ⊥))
  texts_clear_iff = Iff.trans (texts_found-iff none) (
    λ (j, ss, e, f, c). (j, ss, (texts_read_iff j ss).0 (e, f), ((checked_clear_iff j ss).0 c).1),
    λ (j, ss, t, apart).
        let (e, f) = (texts_read_iff j ss).1 t in
        (j, ss, e, f, (checked_clear_iff j ss).1 ((started_fine-iff j ss).1 t.started, apart)),
  )

  -- a clash is told of such texts only: that of the lowest packet, at its first conflict, with the lowest packet before it there
  pub texts_clash_shown : (c : Clash) → checked_texts job plan ≡ found (some c)
      → (j : Job) × (ss : List ℕ) × TextPair j ss job plan × Shown (Takes j.network) (packets j) ss c.later c.earlier c.resource c.step
  texts_clash_shown c e =
      let (j, ss, a, b, d) = (texts_found-iff (some c)).0 e in
      (j, ss, (texts_read_iff j ss).0 (a, b), checked_shows j ss c d)

-- ---- what `plan` prints, `check` clears

module _ (job : List ℕ) (j : Job) (e : reading job ≡ is j) where
  -- the plan of the greedy starts of an accepted job text is clear
  pub checks-of_plan : checks job (text_of_plan j (greedy j)) ≡ clear_text
  unfolding checks
  checks-of_plan =
      let accepted = reading_accepted job j e in
      let read = plan_reads_back j (greedy j) (greedy_started j accepted) in
      rw ((texts_found-iff job (text_of_plan j (greedy j)) none).1 (j, greedy j, e, read, checked-greedy_clear j accepted))

  -- and that is what `plan` prints for it
  pub checks_of_plans : checks job (plans job) ≡ clear_text
  unfolding plans answer printed
  checks_of_plans = rw e checks-of_plan
