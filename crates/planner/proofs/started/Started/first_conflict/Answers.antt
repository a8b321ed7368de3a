-- Each link has room for its hops, nobody has entered one yet, and no step is marked.
use Rattle.std.proofs.Common.{refl, arith}
use Rattle.marks.specs.Marks.{unmarked}
use Rattle.planner.proofs.EntriesKept.{hops_below, entries_none}
use Rattle.planner.proofs.started.Started.first_conflict.Goals as goal

pub make_room-links-requires : goal.make_room-links-requires
make_room-links-requires c =
    let paths = c.args.self.now.paths in
    (hops_below _ _ paths.simple, omega (arith, paths.simple.few), c.empty-entries.ensures.0, c.empty-entries.ensures.1)

pub conflict_among-requires : goal.conflict_among-requires
unfolding unmarked
conflict_among-requires c =
    let paths = c.args.self.now.paths in
    let r = c.make_room-links in
    let entries = r.new.self in (
      entries_none _ _ _ _ _ _ paths.simple.few r.ensures.rooms r.ensures.empty entries.firsts_length entries.nexts_length entries.steps_length,
      r.ensures.links,
      omega arith,
      refl,
    )
