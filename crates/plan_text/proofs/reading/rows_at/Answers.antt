-- A line that is the next row is stored and passed; any other ends the rows, or is bad.
use Rattle.std.proofs.Common.{◌≡◌, Err, sym, ◌∙◌, arith, rules}
use Rattle.plan_text.proofs.RowsLeft.{ok_some, err_none, left-start, left_end, left_none, left_wrong, left_turn, left_forward, left_inside}
use Rattle.plan_text.proofs.reading.rows_at.Goals as goal

pub loop-bad_form-init : goal.loop-bad_form-init
loop-bad_form-init c = left-start _ _ _ _

pub returns-in_err-row : goal.returns-in_err-row
returns-in_err-row c =
    let e : c.from_residual.result ≡ Err c.in_err-row.field-0.0 = search rules in
    let (none, why) = err_none _ _ c.in_err-row.ensures.value in
    rw (e, why) (left_none c.loop-bad_form.invariant (sym c.loop-bad_form-test.ensures) (sym c.line_at.ensures ∙ none))

pub returns-then-from-count : goal.returns-then-from-count
returns-then-from-count c =
    left_wrong c.loop-bad_form.invariant (sym c.loop-bad_form-test.ensures) (sym c.line_at.ensures ∙ ok_some _ _ c.in_ok-row.ensures.value)
    (λ e. c.if-from-count.true (c.from.ensures ∙ e))

pub loop-bad_form-smaller : goal.loop-bad_form-smaller
loop-bad_form-smaller c =
    omega (
      arith,
      left_inside c.loop-bad_form.invariant (sym c.loop-bad_form-test.ensures),
      left_forward c.loop-bad_form.invariant (sym c.loop-bad_form-test.ensures) (sym c.line_at.ensures ∙ ok_some _ _ c.in_ok-row.ensures.value),
    )

pub loop-bad_form-preserved : goal.loop-bad_form-preserved
loop-bad_form-preserved c =
    rw (c.store.ensures, c.store-in-loop-bad_form.ensures)
    (left_turn c.loop-bad_form.invariant (sym c.loop-bad_form-test.ensures) (sym c.line_at.ensures ∙ ok_some _ _ c.in_ok-row.ensures.value)
    (sym c.from.ensures ∙ c.if-from-count.false))

pub returns : goal.returns
returns c = left_end c.loop-bad_form.invariant (sym c.loop-bad_form-test.ensures)
