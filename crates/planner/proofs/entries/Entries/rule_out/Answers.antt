-- The steps that are looked at are those of the hop's link, and past the last hop none is left.
use Rattle.std.proofs.Common.{arith}
use Rattle.planner.proofs.RulingOut.{marked_turn, marked_done}
use Rattle.planner.proofs.entries.Entries.rule_out.Goals as goal

pub loop-link-preserved : goal.loop-link-preserved
loop-link-preserved c =
    (omega arith, rw (c.mark_starts.ensures, c.from.ensures, c.offset_after-offset.ensures, c.steps_on.ensures) (marked_turn c.loop-link.invariant.1 c.loop-link-test.true))

pub returns : goal.returns
returns c = marked_done c.loop-link.invariant.1 c.loop-link-test.false
