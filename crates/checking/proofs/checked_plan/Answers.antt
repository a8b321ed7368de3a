-- The plan reader's answer, then the check's.
use Rattle.std.proofs.Common.{rules, ◌≡◌, Err, sym, length-take-le}
use Rattle.checking.proofs.InTurn.{plan_refused, read_room, checked_told}
use Rattle.checking.proofs.checked_plan.Goals as goal

pub slice_bounds-check-end : goal.slice_bounds-check-end
slice_bounds-check-end c = read_room _ _ _ c.in_ok-read.ensures

pub slice_bounds-check-end-2 : goal.slice_bounds-check-end-2
slice_bounds-check-end-2 c = sym (length-take-le _ _ (read_room _ _ _ c.in_ok-read.ensures))

pub returns-in_err-read : goal.returns-in_err-read
returns-in_err-read c =
    let e : c.from_residual.result ≡ Err c.in_err-read.field-0.0 = search rules in rw e (plan_refused _ _ _ _ c.in_err-read.ensures)

pub returns : goal.returns
returns c = checked_told _ _ _ c.in_ok-read.ensures _ c.check.ensures
