-- What is printed stands first in the room, and that is what is written.
use Rattle.std.proofs.Common.{subst}
use Rattle.std.proofs.lemmas.Result.{on_ok_weaker}
use Rattle.std.specs.Io.KnownBytes.{Appends}
use Rattle.answer.proofs.Printing.{printed_first}
use Rattle.check_plan.proofs.print.Goals as goal

pub returns : goal.returns
returns g c = on_ok_weaker _ (subst (Appends _ _) (printed_first _ _ _ _ c.print-count.ensures.printed_as)) c.write_all.ensures.bytes
