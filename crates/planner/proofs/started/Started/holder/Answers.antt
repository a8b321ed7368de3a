-- The first packet listed before packet k that enters the link in the step, if one does.
use Rattle.std.proofs.Common.{rules, arith}
use Rattle.std.proofs.iter.runs.Sources.{ranges}
use Rattle.planner.specs.PacketsInLists.{packet_enters}
use Rattle.planner.proofs.Clashing.{holder_found}
use Rattle.planner.proofs.started.Started.holder.Goals as goal

pub returns : goal.returns
unfolding packet_enters
returns c =
    let s = c.args.self.now in
    holder_found s.paths.stops.now s.paths.hops.now s.starts.now c.args.k (omega (arith, s.as_many)) c.requires c.args.link c.args.step.0
    _ (search (rules, ranges))
