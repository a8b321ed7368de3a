-- What was to be counted and stored is what is left to be: a field that says a number takes it from there.
use Rattle.std.proofs.Common.{sym, arith}
use Rattle.lines.proofs.BehindPlaces.{said_behind_lem}
use Rattle.lines.proofs.CopyingNumbers.{copying_stored, copying_past}
use Rattle.lines.proofs.reading.copy_behind.Goals as goal

pub loop-value-smaller-then-next-list : goal.loop-value-smaller-then-next-list
loop-value-smaller-then-next-list c = let f = said_behind_lem _ _ (sym c.in-Ok.ensures) in omega arith

pub loop-value-preserved-then-next-list : goal.loop-value-preserved-then-next-list
loop-value-preserved-then-next-list c = copying_stored c.loop-value.invariant (said_behind_lem _ _ (sym c.in-Ok.ensures))

pub loop-value-smaller : goal.loop-value-smaller
loop-value-smaller c = let f = said_behind_lem _ _ (sym c.in-Ok.ensures) in omega arith

pub loop-value-preserved : goal.loop-value-preserved
loop-value-preserved c = copying_past c.loop-value.invariant (said_behind_lem _ _ (sym c.in-Ok.ensures)) c.if-next-list.false
