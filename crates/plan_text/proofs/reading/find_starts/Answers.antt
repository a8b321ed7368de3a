-- The S lines, as many as packets, the T line, and what follows.
use Rattle.std.proofs.Common.{◌≡◌, Err, sym, ◌∙◌, rules, length-take-le}
use Rattle.plan_text.proofs.Stops.{accepted_job}
use Rattle.plan_text.proofs.Finding.{rows_bad, count_off, totals_bad, off, found, packets_fit, starts_fit, ends_fit}
use Rattle.plan_text.proofs.reading.find_starts.Goals as goal

pub returns-in_err-rows : goal.returns-in_err-rows
returns-in_err-rows c =
    let e : c.from_residual.result ≡ Err c.in_err-rows.field-0.0 = search rules in
    rw e (rows_bad _ _ c.requires.1 (rw c.top-reader.ensures at c.in_err-rows.ensures.0))

pub returns-then-rows-lists : goal.returns-then-rows-lists
returns-then-rows-lists c =
    count_off _ _ c.requires.1 (rw c.top-reader.ensures at c.in_ok-rows.ensures.0) c.if-rows-lists.true

pub returns-in_err-said : goal.returns-in_err-said
returns-in_err-said c =
    let e : c.from_residual-in_err-said.result ≡ Err c.in_err-said.field-0.0 = search rules in
    rw e
    (totals_bad _ _ c.requires.1 (rw c.top-reader.ensures at c.in_ok-rows.ensures.0) c.if-rows-lists.false
    (rw (c.moved.ensures, c.top-reader.ensures) at c.in_err-said.ensures))

pub shared_ref_as_front-plan : goal.shared_ref_as_front-plan
shared_ref_as_front-plan c = packets_fit _ c.requires.0 c.if-rows-lists.false

pub slice_bounds-plan-end : goal.slice_bounds-plan-end
slice_bounds-plan-end c = sym (length-take-le _ _ (starts_fit _ c.requires.0 c.if-rows-lists.false c.top-reader.result.bytes.now c.top-reader.result.place _ (cc) c.in_ok-rows.ensures.1))

pub invariant_of-plan : goal.invariant_of-plan
invariant_of-plan c = record {
  job = c.requires.0;
  count =
      length-take-le _ _ (starts_fit _ c.requires.0 c.if-rows-lists.false c.top-reader.result.bytes.now c.top-reader.result.place _ (cc) c.in_ok-rows.ensures.1) ∙ c.if-rows-lists.false
      ∙ sym (accepted_job _ c.requires.0).stops_count;
}

pub slice_bounds-ends-end : goal.slice_bounds-ends-end
slice_bounds-ends-end c = ends_fit _ c.requires.0 c.if-rows-lists.false c.top-reader.result.bytes.now c.top-reader.result.place _ (cc) c.in_ok-rows.ensures.2

pub slice_bounds-followed-end : goal.slice_bounds-followed-end
slice_bounds-followed-end c = sym (length-take-le _ _ (ends_fit _ c.requires.0 c.if-rows-lists.false c.top-reader.result.bytes.now c.top-reader.result.place _ (cc) c.in_ok-rows.ensures.2))

pub returns-in_err-followed : goal.returns-in_err-followed
returns-in_err-followed c =
    let e : c.from_residual-in_err-followed.result ≡ Err c.in_err-followed.field-0.0 = search rules in
    let rows = rw c.top-reader.ensures at c.in_ok-rows.ensures in
    rw e
    (off _ _ c.requires.1 rows.0 c.if-rows-lists.false (rw (c.moved.ensures, c.top-reader.ensures) at c.in_ok-said.ensures)
    (packets_fit _ c.requires.0 c.if-rows-lists.false) _ _ (cc) (cc) _ _ rows.1 rows.2 c.in_err-followed.ensures)

pub returns : goal.returns
returns c =
    let rows = rw c.top-reader.ensures at c.in_ok-rows.ensures in
    found _ _ c.requires.1 rows.0 c.if-rows-lists.false (rw (c.moved.ensures, c.top-reader.ensures) at c.in_ok-said.ensures)
    (packets_fit _ c.requires.0 c.if-rows-lists.false) _ _ (cc) (cc) _ _ rows.1 rows.2 c.in_ok-followed.ensures
