-- Each turn wipes the first step that is left; past the last none is marked.
use Rattle.std.proofs.Common.{rules}
use Rattle.planner.proofs.WholeLists.{whole_from}
use Rattle.planner.proofs.StepsMarked.{wiped_to_turn, wiped_to_done}
use Rattle.planner.proofs.repeats.unmark.Goals as goal

pub loop-step-preserved : goal.loop-step-preserved
loop-step-preserved c = rw c.wipe.ensures (wiped_to_turn c.loop-step.invariant c.loop-step-test.true c.from.ensures (search (rules, whole_from)))

pub returns : goal.returns
returns c = wiped_to_done c.loop-step.invariant c.loop-step-test.false (search (rules, whole_from))
