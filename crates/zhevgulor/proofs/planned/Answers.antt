-- The planner's answer.
use Rattle.std.proofs.Common.{rules, arith, ◌≡◌, Err}
use Rattle.zhevgulor.proofs.ToldToC.{planned_few, planned_told, planned_refused}
use Rattle.zhevgulor.proofs.planned.Goals as goal

pub overflow_cast-result : goal.overflow_cast-result
overflow_cast-result c = omega (arith, planned_few _ _ c.in_ok-plan.ensures)

pub returns-in_err-plan : goal.returns-in_err-plan
returns-in_err-plan c =
    let e : c.from_residual.result ≡ Err c.in_err-plan.field-0.0 = search rules in rw e (planned_refused _ _ _ c.in_err-plan.ensures)

pub returns : goal.returns
returns c = planned_told _ _ c.in_ok-plan.ensures
