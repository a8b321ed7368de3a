-- The verdict is that on the rows that are left.
use Rattle.std.proofs.Common.{length}
use Rattle.rules.specs.Network.{paths}
use Rattle.job.specs.Lists.{job_in}
use Rattle.plan_text.proofs.Following.{RowsLeft}
use Rattle.plan_text.proofs.reading.rows_verdict.Given as goal

abbrev pub invariant-loop-k : goal.invariant-loop-k
invariant-loop-k l = RowsLeft (paths (job_in l.plan.lists)) l.plan.starts.now l.ends (length l.yielded)
