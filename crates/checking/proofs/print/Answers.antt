-- The word, the clash's line, or the refusal's with the letter of its text.
use Rattle.std.proofs.Common.{rules}
use Rattle.checking.proofs.Printing.{prints, line_printed}
use Rattle.checking.proofs.print.Goals as goal

pub returns-in-Ok-None-clause-printed_as : goal.returns-in-Ok-None-clause-printed_as
returns-in-Ok-None-clause-printed_as c = prints _ _ (rw c.in-Ok-None.field-0-is at c.in-Ok-None.ensures) c.tell_clear.ensures

pub returns-in-Ok-Some-clause-printed_as : goal.returns-in-Ok-Some-clause-printed_as
returns-in-Ok-Some-clause-printed_as c =
    let put = rw (c.from.ensures, c.from-in-Ok-Some.ensures, c.from-in-Ok-Some-2.ensures) at c.line.ensures.put in
    prints _ _ (rw c.in-Ok-Some.field-0-is at c.in-Ok-Some.ensures) (line_printed put (search rules))

pub returns-in-Err-Job-clause-printed_as : goal.returns-in-Err-Job-clause-printed_as
returns-in-Err-Job-clause-printed_as c =
    prints _ _ (rw c.in-Err-Job.field-0-is at c.in-Err-Job.ensures) (line_printed (search rules) (search rules))

pub returns-in-Err-Plan-clause-printed_as : goal.returns-in-Err-Plan-clause-printed_as
returns-in-Err-Plan-clause-printed_as c =
    prints _ _ (rw c.in-Err-Plan.field-0-is at c.in-Err-Plan.ensures) (line_printed (search rules) (search rules))
