-- No word has a mark but those of the steps that are left.
use Rattle.planner.proofs.StepsMarked.{WipedTo}
use Rattle.planner.proofs.repeats.unmark.Given as goal

abbrev pub invariant-loop-step : goal.invariant-loop-step
invariant-loop-step l = WipedTo l.steps l.initial.words l.words l.step-index
