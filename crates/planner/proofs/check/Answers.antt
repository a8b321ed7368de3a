-- The refusals in their order, then the first clash.
use Rattle.std.proofs.Common.{◌≡◌, Err, rules}
use Rattle.planner.proofs.CheckAndLead.{checked_refused, checked-found}
use Rattle.planner.proofs.check.Goals as goal

pub returns-in_err-accepted : goal.returns-in_err-accepted
returns-in_err-accepted c =
    let e : c.from_residual.result ≡ Err c.in_err-accepted.field-0.0 = search rules in
    rw e (checked_refused _ _ _ c.in_err-accepted.ensures.verdict)

pub returns : goal.returns
returns c =
    let told = c.in_ok-accepted.ensures in
    checked-found _ _ told.verdict (rw (told.packets.0, told.packets.1, told.packets.2) at c.first_clash.ensures)
