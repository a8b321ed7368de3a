-- A load is never more than the sum of all, and the link that is counted has one.
use Rattle.std.proofs.Common.{arith, rules}
use Rattle.planner.proofs.WholeLists.{whole_from}
use Rattle.planner.proofs.RoomsOpened.{counted_le, counted_over, counted_done}
use Rattle.planner.proofs.entries.count.Goals as goal

pub overflow_add-loads : goal.overflow_add-loads
overflow_add-loads c = omega (arith, counted_le c.loop-link.invariant c.from.result)

pub loop-link-preserved : goal.loop-link-preserved
loop-link-preserved c =
    counted_over c.loop-link.invariant c.loop-link-test.true c.from.ensures c.requires.0 (search (rules, whole_from))

pub returns-clause-by_index : goal.returns-clause-by_index
returns-clause-by_index c = counted_done c.loop-link.invariant c.loop-link-test.false (search (rules, whole_from))
