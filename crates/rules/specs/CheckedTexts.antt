-- Document 02, request 1, "Read plans back": a job's text and a plan's text, checked, and what `check` prints for them.
use Rattle.std.specs.Prelude.{List, [], ◌∷◌, ℕ}
use Rattle.std.proofs.Math.Option.{Option, none, some}
use Rattle.rules.specs.Network.{Job}
use Rattle.rules.specs.Outcome.{Outcome, is, refused, onward}
use Rattle.rules.specs.Check.{Clash}
use Rattle.rules.specs.Bytes.{line_feed, letter_c, letter_q, letter_r, line_text}
use Rattle.rules.specs.JobText.{reading}
use Rattle.rules.specs.PlanBack.{read_back}
use Rattle.rules.specs.Answers.{checked}

-- what two texts come to: what the check finds, none being clear, or the text that is refused
pub data TextsChecked : Type 0 where
  found : Option Clash → TextsChecked
  job_refused : (number place : ℕ) → TextsChecked
  plan_refused : (number place : ℕ) → TextsChecked

abbrev pub of_plan : Outcome (Option Clash) → TextsChecked
of_plan (is clash) = found clash
of_plan (refused number place) = plan_refused number place

-- the job comes first: where it is refused nothing is said of the plan
abbrev pub of_job : Outcome Job → List ℕ → TextsChecked
of_job (is j) plan = of_plan (onward (read_back j plan) (λ starts. checked j starts))
of_job (refused number place) plan = job_refused number place

unfoldable pub checked_texts : (job plan : List ℕ) → TextsChecked
checked_texts job plan = of_job (reading job) plan

-- the word `clear` and a line feed
abbrev pub clear_text : List ℕ
clear_text = 99 ∷ 108 ∷ 101 ∷ 97 ∷ 114 ∷ line_feed ∷ []

abbrev pub printed_check : TextsChecked → List ℕ
printed_check (found none) = clear_text
printed_check (found (some c)) = line_text letter_c (c.later ∷ c.earlier ∷ c.resource ∷ c.step ∷ [])
printed_check (job_refused number place) = line_text letter_r (number ∷ place ∷ [])
printed_check (plan_refused number place) = line_text letter_q (number ∷ place ∷ [])

-- what `check` prints
unfoldable pub checks : (job plan : List ℕ) → List ℕ
checks job plan = printed_check (checked_texts job plan)
