-- A hop more is entered, and past the last none is left.
use Rattle.std.proofs.Common.{◌<◌, length, get_or, arith}
use Rattle.planner.proofs.EnteringLinks.{path_turn, path_added}
use Rattle.planner.proofs.entries.Entries.enter.Goals as goal

pub loop-link-preserved : goal.loop-link-preserved
loop-link-preserved c =
    let entered = c.loop-link.invariant.2 in
    let on_link : get_or c.args.path.now c.loop-link.link-index 0 < length c.loop-link.self.nexts =
    rw entered.so_far.nexts_length (c.requires.0 c.loop-link.link-index c.loop-link-test.true) in (
      omega arith,
      c.loop-link.invariant.1,
      rw (c.from-in-loop-link-2.ensures, c.of-step.ensures, c.from-in-loop-link.ensures, c.from.ensures, c.offset_after-offset.ensures)
          (path_turn entered c.loop-link-test.true on_link),
    )

pub returns-clause-entries : goal.returns-clause-entries
returns-clause-entries c = path_added c.loop-link.invariant.2 c.loop-link-test.false
