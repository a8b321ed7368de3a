-- What the planner's answers mean, in the terms of the rules.
use Rattle.std.specs.Prelude.{◌≡◌, List, ℕ, ◌<◌, ℤ, ⊤, Option, Some, None, Result, MatchOption}
use Rattle.std.proofs.Math.Option as maybe
use Rattle.rules.specs.Network.{Job}
use Rattle.rules.specs.Outcome.{Outcome, is, fine, onward}
use Rattle.rules.specs.Greedy.{greedy}
use Rattle.rules.specs.Check.{Clash as RuledClash}
use Rattle.rules.specs.Answers.{lent_after}
use Rattle.job.specs.declared.Job.{Job as Counts}
use Rattle.job.specs.declared.Refusal.{Refusal}
use Rattle.job.specs.declared.Step.{Step}
use Rattle.job.specs.Told.{outcome_of, verdict_of}
use Rattle.job_text.specs.Told.{Lists, ReadAs}
use Rattle.planner.specs.declared.Clash.{Clash}

-- an option of the code, as the rules have it
abbrev pub option_of : {A B : Type 0} → (A → B) → Option A → maybe.Option B
option_of f None = maybe.none
option_of f (Some a) = maybe.some (f a)

abbrev pub entered_of : Option Step → maybe.Option ℕ
entered_of = option_of (λ step. step.0)

-- who has the link, if somebody does
abbrev pub held_by : Option ℕ → maybe.Option ℕ
held_by = option_of (λ packet. packet)

-- the clash that is shown, if there is one
abbrev pub found_of : Option Clash → maybe.Option RuledClash
found_of = option_of (λ c. record { later = c.later; earlier = c.earlier; resource = c.link; step = c.step.0 })

abbrev pub checked_of : Result (Option Clash) Refusal → Outcome (maybe.Option RuledClash)
checked_of = outcome_of found_of

abbrev pub led_of : Result ℤ Refusal → Outcome ℤ
led_of = outcome_of (λ difference. difference)

-- an entry step that fits an i32
abbrev pub Near : Option Step → Type 0
Near entered = MatchOption entered ⊤ (λ step. step.0 < 2147483648)

-- the planner's verdict, and the lent list afterwards
pub record PlannedAs (answer : Outcome (List ℕ)) (told : Result Unit Refusal) (lent after : List ℕ) : Type 0 where
  pub verdict : verdict_of told ≡ onward answer (λ starts. fine)
  pub list : after ≡ lent_after answer lent

-- the reader's answer and its five lists afterwards, and the list lent for the starts: the greedy ones of the job that was read
pub record ReadAndPlannedAs (outcome : Outcome Job) (told : Result Counts Refusal) (lent after : Lists) (starts starts_after : List ℕ) : Type 0 where
  pub read : ReadAs outcome told lent after
  pub planned : starts_after ≡ lent_after (onward outcome (λ j. is (greedy j))) starts
