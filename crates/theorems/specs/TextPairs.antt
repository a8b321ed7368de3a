-- A job's text and a plan's text that belong together.
use Rattle.std.specs.Prelude.{◌≡◌, List, ℕ, ◌≤◌, length}
use Rattle.rules.specs.Sizes.{text_most}
use Rattle.rules.specs.Network.{Job}
use Rattle.rules.specs.JobWritten.{text_of_job}
use Rattle.rules.specs.PlanText.{text_of_plan}
use Rattle.theorems.specs.Jobs.{IsStarted}

-- the first is the text of an accepted job, the second its plan with these starts, none too late
pub record TextPair (j : Job) (starts : List ℕ) (job plan : List ℕ) : Type 0 where
  pub started : IsStarted j starts
  pub job_written : job ≡ text_of_job j
  pub job_short : length job ≤ text_most
  pub plan_written : plan ≡ text_of_plan j starts
