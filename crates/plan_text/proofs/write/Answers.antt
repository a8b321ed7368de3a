-- What the verdict refuses, then the plan of what it accepts.
use Rattle.std.proofs.Common.{◌≡◌, Err, sym, rules}
use Rattle.plan_text.proofs.WritingPlans.{write_refused, started_tables, started_count}
use Rattle.plan_text.proofs.write.Goals as goal

pub returns-in_err-started : goal.returns-in_err-started
returns-in_err-started c =
    let e : c.from_residual.result ≡ Err c.in_err-started.field-0.0 = search rules in
    rw e (write_refused _ _ _ c.in_err-started.ensures _)

pub invariant_of-plan : goal.invariant_of-plan
invariant_of-plan c = record { job = started_tables _ _ (sym c.in_ok-started.ensures); count = started_count _ _ (sym c.in_ok-started.ensures) }
