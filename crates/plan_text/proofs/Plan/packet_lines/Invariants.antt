-- What is left to write, after what is written, is all of the lines.
use Rattle.rules.specs.Network.{paths}
use Rattle.job.specs.Lists.{job_in}
use Rattle.plan_text.proofs.PacketLoops.{LinesLeft}
use Rattle.plan_text.proofs.Plan.packet_lines.Given as goal

abbrev pub invariant-loop-k : goal.invariant-loop-k
invariant-loop-k l = LinesLeft l.self.starts.now (paths (job_in l.self.lists)) l.fn.room l.room l.at l.k
