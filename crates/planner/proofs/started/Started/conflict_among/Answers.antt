-- Once every packet has entered, each link's entries stand in the order of the hops.
use Rattle.std.proofs.Common.{◌∙◌, sym}
use Rattle.planner.proofs.EveryPacket.{all_enterable, entries_in_order, again_ready}
use Rattle.planner.proofs.started.Started.conflict_among.Goals as goal

pub enter_each-requires : goal.enter_each-requires
enter_each-requires c = let s = c.args.self.now in all_enterable s.paths.simple s.as_many c.requires.0

pub first_again-requires : goal.first_again-requires
first_again-requires c =
    let s = c.args.self.now in
    let e = c.enter_each in
    let before = c.args.entries.now in
    let after = e.new.entries in
    rw e.ensures.rooms (again_ready s.paths.simple s.as_many c.requires.0 (after.nexts_length ∙ sym before.nexts_length) (after.steps_length ∙ sym before.steps_length)
    e.ensures.by_index c.requires.1 _ after.steps_fit c.requires.2 c.requires.3)

pub returns : goal.returns
returns c =
    let s = c.args.self.now in
    let e = c.enter_each in
    let before = c.args.entries.now in
    let after = e.new.entries in
    c.first_again.ensures _ (rw e.ensures.rooms (entries_in_order s.paths.simple s.as_many c.requires.0 (after.nexts_length ∙ sym before.nexts_length) (after.steps_length ∙ sym before.steps_length)
    e.ensures.by_index e.ensures.entries))
