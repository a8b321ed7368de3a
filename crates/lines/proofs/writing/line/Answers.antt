-- The text of the line is the fields that were left; a line of too many numbers has none.
use Rattle.std.proofs.Common.{◌^◌, arith}
use Rattle.std.proofs.lemmas.Bool.{lt-ltb}
use Rattle.lines.proofs.Putting.{fields_done}
use Rattle.lines.proofs.writing.line.Goals as goal

pub returns-clause-put : goal.returns-clause-put
returns-clause-put g c =
    rw (lt-ltb g.row.N (2 ^ 32) (omega arith)) (fields_done c.loop-n.invariant.left c.loop-n.invariant.same (omega arith) c.byte.ensures)
