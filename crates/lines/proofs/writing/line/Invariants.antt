-- The numbers that are gone over are those of the call. What is to be written still is the fields of those that are left, and the line feed.
use Rattle.std.proofs.Common.{◌≡◌, ◌+◌, ◌*◌, ◌≤◌}
use Rattle.lines.proofs.Putting.{FieldsLeft}
use Rattle.lines.proofs.writing.line.Given as goal

abbrev pub invariant-loop-n : goal.invariant-loop-n
invariant-loop-n g l = record {
  near : l.place ≤ l.at + 1 + 11 * l.n-index;
  same : l.n-items ≡ l.fn.numbers;
  left : FieldsLeft l.fn.room l.at l.letter l.n-items l.room l.place l.n-index;
}
