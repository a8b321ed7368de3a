-- Where one of the two does not enter there is no lead, and else it is what the machine computes.
use Rattle.std.proofs.Common.{◌≡◌, Err, rules}
use Rattle.planner.proofs.Differences.{no_first, no_second, both_enter}
use Rattle.planner.proofs.difference.Goals as goal

pub returns-in_err-one : goal.returns-in_err-one
returns-in_err-one c =
    let e : c.from_residual.result ≡ Err c.in_err-one.field-0.0 = search rules in
    rw e (no_first _ _ c.in_err-one.ensures.value)

pub returns-in_err-other : goal.returns-in_err-other
returns-in_err-other c =
    let e : c.from_residual-in_err-other.result ≡ Err c.in_err-other.field-0.0 = search rules in
    rw e (no_second _ _ c.in_err-other.ensures.value)

pub returns : goal.returns
returns c = both_enter _ _ c.in_ok-one.ensures.ok_part c.in_ok-other.ensures.ok_part c.requires.0 c.requires.1
