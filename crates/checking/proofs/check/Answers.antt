-- The job's lists, then the plan.
use Rattle.std.proofs.Common.{rules, ◌≡◌, Err, ◌∙◌}
use Rattle.job_text.proofs.Accepts.{roomy_arrays}
use Rattle.checking.proofs.BothTexts.{job_read, job_not_read, of_the_plan, job_refused, plan_checked, places}
use Rattle.checking.proofs.check.Goals as goal

pub returns-in_err-counts : goal.returns-in_err-counts
returns-in_err-counts c =
    let e : c.from_residual.result ≡ Err c.in_err-counts.field-0.0 = search rules in
    let (r, told, same) = job_not_read _ c.map_err.ensures.cases c.in_err-counts.was in
    rw (e, same) (job_refused _ _ roomy_arrays r (rw told at c.read.ensures.read))

pub returns : goal.returns
returns c =
    let told = job_read _ c.map_err.ensures.cases c.in_ok-counts.was in
    of_the_plan _ _ c.map_err-2.ensures.cases
    ∙ plan_checked _ _ roomy_arrays (rw told at c.read.ensures.read) _ places _ c.job.ensures _ c.checked_plan.ensures
