-- The reader's lists, then the starts of the job that stands in them.
use Rattle.std.proofs.Common.{◌≡◌, Err, rules, arith}
use Rattle.planner.proofs.TextPlanned.{text_refused, text_listed, text_fits, text_planned}
use Rattle.planner.proofs.from_text.read_and_plan.Goals as goal

pub returns-in_err-job-clause-read_and_planned : goal.returns-in_err-job-clause-read_and_planned
returns-in_err-job-clause-read_and_planned c =
    let e : c.from_residual.result ≡ Err c.in_err-job.field-0.0 = search rules in
    rw e (text_refused _ c.in_err-job.ensures.read _)

pub invariant_of-fill : goal.invariant_of-fill
invariant_of-fill c = record { simple = text_listed _ c.in_ok-job.ensures.read _ c.job.ensures }

pub fill-requires : goal.fill-requires
fill-requires c = omega (arith, text_fits _ c.in_ok-job.ensures.read _ c.job.ensures, c.told-starts)

pub returns-clause-read_and_planned : goal.returns-clause-read_and_planned
returns-clause-read_and_planned c = text_planned _ c.in_ok-job.ensures.read _ c.job.ensures c.fill.ensures
