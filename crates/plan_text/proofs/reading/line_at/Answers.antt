-- Each way out is a law of a line by its letter and the fields behind it.
use Rattle.std.proofs.Common.{sym, ◌∙◌}
use Rattle.lines.proofs.BehindPlaces.{said_ok}
use Rattle.lines.proofs.LetterAndFeed.{unsaid_ok}
use Rattle.plan_text.proofs.LineOfThree.{other_letter, this_letter, no_first, no_second, no_third, three_unfed, three-found}
use Rattle.plan_text.proofs.reading.line_at.Goals as goal

pub returns-then-ne : goal.returns-then-ne
returns-then-ne c = other_letter _ _ c.requires c.letter_at.ensures c.if-ne.ensures

pub returns-in_err-first : goal.returns-in_err-first
returns-in_err-first c =
    c.from_residual.ensures ∙ no_first (this_letter _ _ c.requires c.letter_at.ensures c.if-ne.ensures)
    (unsaid_ok _ _ c.field_behind.ensures c.in_err-first.ensures.value)

pub returns-in_err-second : goal.returns-in_err-second
returns-in_err-second c =
    c.from_residual-in_err-second.ensures ∙ no_second (this_letter _ _ c.requires c.letter_at.ensures c.if-ne.ensures)
    (said_ok _ _ c.field_behind.ensures c.in_ok-first.ensures.value)
    (unsaid_ok _ _ c.field_behind-2.ensures c.in_err-second.ensures.value)

pub returns-in_err-third : goal.returns-in_err-third
returns-in_err-third c =
    c.from_residual-in_err-third.ensures ∙ no_third (this_letter _ _ c.requires c.letter_at.ensures c.if-ne.ensures)
    (said_ok _ _ c.field_behind.ensures c.in_ok-first.ensures.value)
    (said_ok _ _ c.field_behind-2.ensures c.in_ok-second.ensures.value)
    (unsaid_ok _ _ c.field_behind-3.ensures c.in_err-third.ensures.value)

pub returns-then-not-begins_at : goal.returns-then-not-begins_at
returns-then-not-begins_at c =
    three_unfed (this_letter _ _ c.requires c.letter_at.ensures c.if-ne.ensures)
    (said_ok _ _ c.field_behind.ensures c.in_ok-first.ensures.value)
    (said_ok _ _ c.field_behind-2.ensures c.in_ok-second.ensures.value)
    (said_ok _ _ c.field_behind-3.ensures c.in_ok-third.ensures.value)
    (sym c.if-not-begins_at.ensures)

pub returns : goal.returns
returns c =
    rw c.moved.ensures
    (three-found (this_letter _ _ c.requires c.letter_at.ensures c.if-ne.ensures)
    (said_ok _ _ c.field_behind.ensures c.in_ok-first.ensures.value)
    (said_ok _ _ c.field_behind-2.ensures c.in_ok-second.ensures.value)
    (said_ok _ _ c.field_behind-3.ensures c.in_ok-third.ensures.value)
    (sym c.if-not-begins_at.ensures))
