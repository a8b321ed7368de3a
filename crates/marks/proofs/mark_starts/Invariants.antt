-- Marking the starts of all steps in the words as they were is marking those of the steps that are left in the words as they are with the
-- one in hand put back.
use Rattle.std.proofs.Common.{◌≡◌, drop, set}
use Rattle.marks.specs.Marks.{with_starts}
use Rattle.marks.proofs.mark_starts.Given as goal

abbrev pub invariant-loop-step : goal.invariant-loop-step
invariant-loop-step l = with_starts l.offset l.steps l.initial.words ≡ with_starts l.offset (drop l.step-index l.steps) (set l.words l.word.at l.word.bits)
