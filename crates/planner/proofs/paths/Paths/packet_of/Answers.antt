-- The packets that stop at the hop or before it are the first ones, and the next has it.
use Rattle.std.proofs.Common.{leb, rules, of_calls}
use Rattle.std.proofs.lemmas.List.Sorted.{IsPartitionPoint-from_clause}
use Rattle.planner.proofs.PathParts.{stops_part}
use Rattle.planner.proofs.EveryPacket.{on_path_of}
use Rattle.planner.proofs.paths.Paths.packet_of.Goals as goal

pub returns : goal.returns
returns c =
    let e = c.partition_point.ensures in
    let hop = c.args.hop in
    let stops = c.args.self.now.stops.now in
    let simple = c.args.self.now.simple in
    on_path_of simple c.requires e.bound
    (IsPartitionPoint-from_clause (λ stop. leb stop hop) stops c.partition_point.result e.partitioned (stops_part hop simple) (λ a r f k. search (rules, of_calls)))
