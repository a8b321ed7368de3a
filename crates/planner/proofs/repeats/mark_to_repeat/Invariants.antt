-- With the word in hand put back the marks are those of the steps so far.
use Rattle.std.proofs.Common.{set}
use Rattle.planner.proofs.StepsMarked.{MarkedTo}
use Rattle.planner.proofs.repeats.mark_to_repeat.Given as goal

abbrev pub invariant-loop-place : goal.invariant-loop-place
invariant-loop-place l = MarkedTo l.steps l.initial.words (set l.words l.word.at l.word.bits) l.place
