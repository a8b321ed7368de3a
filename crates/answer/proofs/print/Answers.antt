-- The answer from bytes, or the line of its refusal.
use Rattle.std.proofs.Common.{arith}
use Rattle.answer.proofs.Printing.{printed_fits, plan_printed, refusal_printed}
use Rattle.answer.proofs.print.Goals as goal

pub returns-in-Ok-clause-printed_as : goal.returns-in-Ok-clause-printed_as
returns-in-Ok-clause-printed_as c = plan_printed _ _ (omega (arith, c.told-room)) _ c.in-Ok.ensures

pub returns-in-Ok-clause-near : goal.returns-in-Ok-clause-near
returns-in-Ok-clause-near c = printed_fits (plan_printed _ _ (omega (arith, c.told-room)) _ c.in-Ok.ensures)

pub returns-in-Err-clause-printed_as : goal.returns-in-Err-clause-printed_as
returns-in-Err-clause-printed_as c = refusal_printed _ _ (omega (arith, c.told-room)) _ c.in-Err.ensures c.refusal_line.ensures.put
