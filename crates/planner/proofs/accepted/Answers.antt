-- What is accepted is a job, with a start for each packet that is not too late.
use Rattle.std.proofs.Common.{sym, ◌∙◌, arith}
use Rattle.planner.proofs.Planning.{job_listed}
use Rattle.planner.proofs.CheckAndLead.{fine_started}
use Rattle.planner.proofs.accepted.Goals as goal

pub invariant_of-paths : goal.invariant_of-paths
invariant_of-paths c = record { simple = job_listed _ (fine_started _ _ c.in_ok-started.ensures).job }

pub invariant_of-result : goal.invariant_of-result
invariant_of-result c =
    let s = fine_started _ _ c.in_ok-started.ensures in
    record { as_many = s.count ∙ sym s.job.stops_count; few = omega (arith, s.count, s.job.few_packets); in_time = s.in_time }
