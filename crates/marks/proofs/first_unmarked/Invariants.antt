-- Every number of the words before `at` is marked.
use Rattle.std.proofs.Common.{◌*◌}
use Rattle.marks.proofs.Marking.{AllMarked}
use Rattle.marks.proofs.first_unmarked.Given as goal

abbrev pub invariant-loop-at : goal.invariant-loop-at
invariant-loop-at l = AllMarked l.words (64 * l.at)
