-- Each link has room for its hops, and nobody has entered one yet.
use Rattle.std.proofs.Common.{arith}
use Rattle.planner.proofs.EntriesKept.{hops_below, entries_none}
use Rattle.planner.proofs.fill.Goals as goal

pub make_room-requires : goal.make_room-requires
make_room-requires c =
    let paths = c.args.paths.now in
    (hops_below _ _ paths.simple, omega (arith, paths.simple.few), c.empty-entries.ensures.0, c.empty-entries.ensures.1)

pub start_each-requires : goal.start_each-requires
start_each-requires c =
    let r = c.make_room in
    let entries = r.new.self in
    (c.requires, entries_none _ _ _ _ _ _ c.args.paths.now.simple.few r.ensures.rooms r.ensures.empty entries.firsts_length entries.nexts_length entries.steps_length, omega arith)
