-- The counts of a plan's last line, as the code holds them.
use Rattle.std.specs.Prelude.{◌≡◌, List, ℕ}
use Rattle.rules.specs.Network.{Job, paths}
use Rattle.rules.specs.Travel.{one_step}
use Rattle.rules.specs.Counts.{routing_time, congestion, dilation}
use Rattle.plan_text.specs.declared.Counts.{Counts}

-- they are those of the job with these starts
pub record CountsOf (j : Job) (starts : List ℕ) (counts : Counts) : Type 0 where
  pub time_same : counts.time ≡ routing_time one_step starts (paths j)
  pub c_same : counts.c ≡ congestion j
  pub d_same : counts.d ≡ dilation j
