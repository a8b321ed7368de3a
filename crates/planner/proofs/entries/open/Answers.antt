-- Once all hops have their place, no later link has a load.
use Rattle.std.proofs.Common.{arith}
use Rattle.planner.proofs.RoomsOpened.{opened_below, opened_fits, opened_turn, no_load-ahead, opened_rooms, opened_empty}
use Rattle.planner.proofs.entries.open.Goals as goal

pub overflow_add-place : goal.overflow_add-place
overflow_add-place c = omega (arith, opened_fits c.loop-load.invariant)

pub loop-load-preserved : goal.loop-load-preserved
loop-load-preserved c = opened_turn c.loop-load.invariant (opened_below c.loop-load.invariant (omega arith))

pub returns-clause-rooms : goal.returns-clause-rooms
returns-clause-rooms c = opened_rooms c.loop-load.invariant (omega arith)

pub returns-clause-empty : goal.returns-clause-empty
returns-clause-empty c = opened_empty c.loop-load.invariant (omega arith)

pub returns-clause-links : goal.returns-clause-links
returns-clause-links c = (c.loop-load.invariant.near, no_load-ahead c.loop-load.invariant (omega arith))
