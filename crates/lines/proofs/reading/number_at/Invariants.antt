-- The digits that are read, of which there is one at least, are worth `value`.
use Rattle.std.proofs.Common.{◌≡◌, length}
use Rattle.lines.proofs.DigitsBehind.{Digits}
use Rattle.lines.proofs.reading.number_at.Given as goal

abbrev pub invariant-loop-i : goal.invariant-loop-i
invariant-loop-i l = record {
  last : l.end ≡ length l.text;
  digits : Digits l.text l.begin l.value l.i;
}
