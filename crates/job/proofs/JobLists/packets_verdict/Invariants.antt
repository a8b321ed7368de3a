-- The verdict is that of the packets that are left, and the stops that are left agree.
use Rattle.std.proofs.Common.{◌≡◌, true, length, drop}
use Rattle.rules.specs.Network.{paths}
use Rattle.rules.specs.Tables.{packets_verdict, stops_agree}
use Rattle.job.specs.Lists.{job_in}
use Rattle.job.proofs.VerdictLoops.{packets_left}
use Rattle.job.proofs.JobLists.packets_verdict.Given as goal

abbrev pub invariant-loop-k : goal.invariant-loop-k
invariant-loop-k l =
    let j = job_in l.self in
    (stops_agree l.from (drop l.k j.stops) (length j.hops) ≡ true)
    × (packets_verdict j.network 0 j.sources (paths j) ≡ packets_left j.network j.sources j.stops j.hops l.from l.k)
