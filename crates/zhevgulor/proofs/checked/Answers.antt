-- The check's answer, a clash in four numbers of the lent list.
use Rattle.std.proofs.Common.{rules, ◌≡◌, Err}
use Rattle.zhevgulor.proofs.ToldToC.{check_refused, check_found}
use Rattle.zhevgulor.proofs.checked.Goals as goal

pub returns-in_err-found : goal.returns-in_err-found
returns-in_err-found c =
    let e : c.from_residual.result ≡ Err c.in_err-found.field-0.0 = search rules in rw e (check_refused _ _ _ _ c.in_err-found.ensures)

pub returns : goal.returns
returns c = check_found _ _ _ _ c.in_ok-found.ensures c.shown.ensures
