-- The T line, if the plan ends behind it.
use Rattle.std.proofs.Common.{◌≡◌, Err, sym, ◌∙◌, rules}
use Rattle.plan_text.proofs.RowsLeft.{ok_some, err_none, totals_none, totals_more, totals_end}
use Rattle.plan_text.proofs.reading.totals_at.Goals as goal

pub returns-in_err-said : goal.returns-in_err-said
returns-in_err-said c =
    let e : c.from_residual.result ≡ Err c.in_err-said.field-0.0 = search rules in
    let (none, why) = err_none _ _ c.in_err-said.ensures.value in
    rw (e, why) (totals_none _ _ (sym c.line_at.ensures ∙ none))

pub returns-then-next-text : goal.returns-then-next-text
returns-then-next-text c = totals_more _ _ (sym c.line_at.ensures ∙ ok_some _ _ c.in_ok-said.ensures.value) c.if-next-text.true

pub returns : goal.returns
returns c = totals_end _ _ (sym c.line_at.ensures ∙ ok_some _ _ c.in_ok-said.ensures.value) c.if-next-text.false
