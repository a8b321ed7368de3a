-- One step's start more is marked; past the last none is left.
use Rattle.std.proofs.Common.{refl, sym, ap, ◌∙◌}
use lib.ListN.{drop_of_length-le}
use Rattle.marks.specs.Marks.{with_starts}
use Rattle.marks.proofs.Marking.{word_taken, one-more-start}
use Rattle.marks.proofs.mark_starts.Goals as goal

pub loop-step-init : goal.loop-step-init
loop-step-init c = ap (with_starts _ _) (sym (word_taken _ 0 c.take-word.ensures.0 c.take-word.ensures.1))

pub loop-step-preserved : goal.loop-step-preserved
loop-step-preserved c = c.loop-step.invariant ∙ one-more-start _ _ _ _ _ _ c.loop-step-test.true refl c.mark_start-word.ensures

pub returns : goal.returns
unfolding with_starts
returns c = c.put.ensures ∙ sym (c.loop-step.invariant ∙ rw (drop_of_length-le _ c.loop-step-test.false))
