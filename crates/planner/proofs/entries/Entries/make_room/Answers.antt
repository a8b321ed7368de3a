-- The loads are those of the hops, and each has its room; so every hop is on a link that has one.
use Rattle.std.proofs.Common.{◌∙◌, sym, arith}
use Rattle.planner.proofs.RoomsOpened.{no_total, hops_below_room}
use Rattle.planner.proofs.entries.Entries.make_room.Goals as goal

pub count-requires : goal.count-requires
count-requires c = let entries = c.args.self.now in (rw entries.nexts_length c.requires.0, omega (arith, no_total entries.nexts c.requires.3))

pub open-requires : goal.open-requires
open-requires c =
    let entries = c.args.self.now in
    (omega (arith, c.count.ensures.sum, no_total entries.nexts c.requires.3), c.requires.1, entries.firsts_length ∙ sym (c.count.auto.loads ∙ entries.nexts_length), c.requires.2)

pub returns-clause-links : goal.returns-clause-links
returns-clause-links c =
    let entries = c.args.self.now in
    (hops_below_room _ _ _ c.requires.3 c.count.ensures.by_index _ c.open.ensures.links.1, omega (arith, c.open.ensures.links.0, c.count.auto.loads, entries.nexts_length))
