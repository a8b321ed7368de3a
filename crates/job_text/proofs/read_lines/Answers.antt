-- The first line, and then those below it.
use Rattle.std.proofs.Common.{◌≡◌, Err, rules}
use Rattle.job_text.specs.Told.{lists, lists_in}
use Rattle.job_text.proofs.LineByLine.{first_bad, first_took, first_refused, first_on}
use Rattle.job_text.proofs.read_lines.Goals as goal

pub returns-in_default-clause-took : goal.returns-in_default-clause-took
returns-in_default-clause-took c = first_bad _ c.in_default.ensures.told

pub returns-in_err-job-clause-took : goal.returns-in_err-job-clause-took
returns-in_err-job-clause-took c =
    let e : c.from_residual.result ≡ Err c.in_err-job.field-0.0 = search rules in
    rw e (first_refused _ (first_took c.in-Some.ensures.told.line c.in_err-job.ensures (lists_in c.args.lists.now)))

pub invariant_of-add_lines : goal.invariant_of-add_lines
invariant_of-add_lines c = let t = first_took c.in-Some.ensures.told.line c.in_ok-job.ensures (lists_in c.args.lists.now) in record { within = t.within }

pub returns-clause-took : goal.returns-clause-took
returns-clause-took c =
    let l = c.args.lists.now in
    let f = c.in-Some.ensures.told in
    let t = first_took f.line c.in_ok-job.ensures (lists l.origins.now l.ends.now l.sources.now l.stops.now c.line_at.new.hops) in
    rw (first_on _ t f.ends c.top.ensures c.moved-next.ensures) c.add_lines.ensures.took
