-- A step that is marked repeats one of those before it, since the marks are theirs.
use Rattle.std.proofs.Common.{set, sym, ◌∙◌}
use Rattle.marks.proofs.Marking.{word_changed}
use Rattle.planner.proofs.StepsMarked.{MarkedTo, held_start, held_to_turn, held_to_repeat}
use Rattle.planner.proofs.repeats.mark_to_repeat.Goals.{After-change-word}
use Rattle.planner.proofs.repeats.mark_to_repeat.Goals as goal

-- once the word of the step is in hand
held : (c : After-change-word)
    → let word = c.change-word.result in
    MarkedTo c.args.steps.now c.args.words.now (set c.change-word.new.words word.at word.bits) c.loop-place.place
held c = let e = c.change-word.ensures in rw (word_changed _ _ _ _ e.at_value.0 e.at_value.1 e.put) c.loop-place.invariant

pub loop-place-init : goal.loop-place-init
loop-place-init c = held_start _ _ c.requires c.take-word.ensures.0 c.take-word.ensures.1

pub loop-place-preserved : goal.loop-place-preserved
loop-place-preserved c =
    rw (c.with_mark-word.ensures.0, c.with_mark-word.ensures.1)
    (held_to_turn _ _ _ (held (goal.at.loop-place-preserved c).After-change-word) c.requires c.loop-place-test.true c.from-step.ensures
    c.change-word.ensures.at_value.0 (sym c.is_marked.ensures ∙ c.if-is_marked.false))

pub returns-then-is_marked-clause-first_repeat : goal.returns-then-is_marked-clause-first_repeat
returns-then-is_marked-clause-first_repeat c =
    held_to_repeat _ _ _ (held (goal.at.returns-then-is_marked-clause-first_repeat c).After-change-word) c.requires c.loop-place-test.true
    c.from-step.ensures c.change-word.ensures.at_value.0 (sym c.is_marked.ensures ∙ c.if-is_marked.true)
