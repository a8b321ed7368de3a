-- The plan reader's answer.
use Rattle.std.proofs.Common.{rules, arith, ◌≡◌, Err}
use Rattle.zhevgulor.proofs.ToldToC.{read_few, read_told, read_refused}
use Rattle.zhevgulor.proofs.starts_said.Goals as goal

pub overflow_cast-result : goal.overflow_cast-result
overflow_cast-result c = omega (arith, read_few _ _ _ c.in_ok-read.ensures)

pub returns-in_err-read : goal.returns-in_err-read
returns-in_err-read c =
    let e : c.from_residual.result ≡ Err c.in_err-read.field-0.0 = search rules in rw e (read_refused _ _ _ _ c.in_err-read.ensures)

pub returns : goal.returns
returns c = read_told _ _ _ c.in_ok-read.ensures
