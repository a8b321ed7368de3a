-- What is read and planned, then its text.
use Rattle.std.proofs.Common.{◌≡◌, Err, sym, rules, length-take-le}
use Rattle.job_text.proofs.Accepts.{counted, roomy_arrays}
use Rattle.plan_text.proofs.TextAnswered.{answer_refused, starts_hold, job_accepted, starts_counted, read_started, answer-written}
use Rattle.plan_text.proofs.from_text.answer.Goals as goal

pub returns-in_err-job : goal.returns-in_err-job
returns-in_err-job c =
    let e : c.from_residual.result ≡ Err c.in_err-job.field-0.0 = search rules in
    rw e (answer_refused _ c.in_err-job.ensures.read_and_planned roomy_arrays _)

pub slice_bounds-starts-end : goal.slice_bounds-starts-end
slice_bounds-starts-end c = counted c.from.ensures (starts_hold _ c.in_ok-job.ensures.read_and_planned)

pub slice_bounds-plan-end : goal.slice_bounds-plan-end
slice_bounds-plan-end c = sym (length-take-le _ _ (counted c.from.ensures (starts_hold _ c.in_ok-job.ensures.read_and_planned)))

pub invariant_of-plan : goal.invariant_of-plan
invariant_of-plan c = record {
  job = job_accepted _ c.in_ok-job.ensures.read_and_planned _ c.job.ensures;
  count = starts_counted _ c.in_ok-job.ensures.read_and_planned _ c.job.ensures c.from.ensures;
}

pub write-requires : goal.write-requires
write-requires c = read_started _ c.in_ok-job.ensures.read_and_planned _ c.job.ensures c.from.ensures

pub returns : goal.returns
returns c = answer-written _ c.in_ok-job.ensures.read_and_planned _ c.job.ensures c.from.ensures c.write.ensures
