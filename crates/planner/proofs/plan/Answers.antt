-- The tables' refusals, then the room, then the greedy starts.
use Rattle.std.proofs.Common.{◌≡◌, Err, rules, arith}
use Rattle.planner.proofs.Planning.{job_listed, fine_job, plan_refused, plan_short, plan_filled}
use Rattle.planner.proofs.plan.Goals as goal

pub returns-in_err-tables : goal.returns-in_err-tables
returns-in_err-tables c =
    let e : c.from_residual.result ≡ Err c.in_err-tables.field-0.0 = search rules in
    rw e (plan_refused _ _ c.in_err-tables.ensures _)

pub returns-then-starts-lists : goal.returns-then-starts-lists
returns-then-starts-lists c = plan_short _ c.in_ok-tables.ensures _ c.if-starts-lists.true

pub invariant_of-fill : goal.invariant_of-fill
invariant_of-fill c = record { simple = job_listed _ (fine_job _ c.in_ok-tables.ensures) }

pub fill-requires : goal.fill-requires
fill-requires c = omega (arith, (fine_job _ c.in_ok-tables.ensures).stops_count)

pub returns : goal.returns
returns c = plan_filled _ c.in_ok-tables.ensures c.if-starts-lists.false c.fill.ensures
