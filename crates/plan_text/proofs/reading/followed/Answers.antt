-- The packets' lines, then the T line.
use Rattle.std.proofs.Common.{◌≡◌, Err, arith, rules}
use Rattle.plan_text.proofs.Stops.{few_starts}
use Rattle.plan_text.proofs.Following.{followed_refused, followed_totals}
use Rattle.plan_text.proofs.reading.followed.Goals as goal

pub returns-in_err-rows_verdict : goal.returns-in_err-rows_verdict
returns-in_err-rows_verdict c =
    let e : c.from_residual.result ≡ Err c.in_err-rows_verdict.field-0.0 = search rules in
    rw e (followed_refused _ _ _ _ c.in_err-rows_verdict.ensures)

pub overflow_cast-line : goal.overflow_cast-line
overflow_cast-line c = omega (arith, few_starts _ _ c.args.plan.now.count c.args.plan.now.job)

pub overflow_add-line : goal.overflow_add-line
overflow_add-line c = omega (arith, few_starts _ _ c.args.plan.now.count c.args.plan.now.job)

pub returns : goal.returns
returns c = followed_totals _ _ _ _ c.in_ok-rows_verdict.ensures c.requires c.totals_verdict.ensures
