-- What was to be counted and stored is what is left to be.
use Rattle.std.proofs.Common.{length, ◌-◌}
use Rattle.lines.proofs.CopyingNumbers.{Copying}
use Rattle.lines.proofs.reading.copy_behind.Given as goal

abbrev pub invariant-loop-value : goal.invariant-loop-value
invariant-loop-value l = Copying l.text l.at l.fn.list l.from l.list l.place l.count l.next

abbrev pub decreases-loop-value : goal.decreases-loop-value
decreases-loop-value l = length l.text - l.place
