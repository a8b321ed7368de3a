-- A start that is too late, then an end that does not follow, is the verdict on the rows; past the last row nothing is refused.
use Rattle.std.proofs.Common.{length, refl, sym, ◌∙◌, arith}
use Rattle.std.proofs.lemmas.List.{length_push}
use Rattle.job.proofs.Pairs.{AtPair, pair_turn, pair_end}
use Rattle.plan_text.proofs.Stops.{paths_count, few_starts}
use Rattle.plan_text.proofs.Following.{row_late, row_off, rows_turn, rows_done}
use Rattle.plan_text.proofs.reading.rows_verdict.Goals.{In-Some}
use Rattle.plan_text.proofs.reading.rows_verdict.Goals as goal

row : (c : In-Some)
    → AtPair c.args.plan.now.starts.now c.args.ends.now (length c.loop-k.yielded) (c.in-Some.k, (c.in-Some.field-0-1-0.now, c.in-Some.field-0-1-1.now))
row c = pair_turn _ _ c.into_iter-k-iterator.result (cc) (cc) (cc) c.loop-k.yielded c.loop-k.k-iterator c.next.new.self c.loop-k.yielded_by c.in-Some.is c.next.ensures.steps

pub loop-k-init : goal.loop-k-init
loop-k-init c = record { left = refl }

pub overflow_cast-line : goal.overflow_cast-line
overflow_cast-line c =
    let at = row (goal.at.overflow_cast-line c).In-Some in
    omega (arith, at.number, at.first, few_starts _ _ c.args.plan.now.count c.args.plan.now.job)

pub overflow_add-line : goal.overflow_add-line
overflow_add-line c =
    let at = row (goal.at.overflow_add-line c).In-Some in
    omega (arith, at.number, at.first, few_starts _ _ c.args.plan.now.count c.args.plan.now.job)

pub returns-then-start-gt-START : goal.returns-then-start-gt-START
returns-then-start-gt-START c =
    row_late c.loop-k.invariant (paths_count _ _ c.args.plan.now.count) (row (goal.at.returns-then-start-gt-START c).In-Some) c.if-start-gt-START.true

pub returns-then-from-end : goal.returns-then-from-end
returns-then-from-end c =
    row_off c.loop-k.invariant (paths_count _ _ c.args.plan.now.count) (row (goal.at.returns-then-from-end c).In-Some) c.if-start-gt-START.false c.end.ensures
    (λ same. c.if-from-end.true (c.from.ensures ∙ same))

pub loop-k-preserved : goal.loop-k-preserved
loop-k-preserved c =
    rw (length_push c.loop-k.yielded (c.in-Some.k, (c.in-Some.field-0-1-0, c.in-Some.field-0-1-1)))
    (rows_turn c.loop-k.invariant (paths_count _ _ c.args.plan.now.count) (row (goal.at.loop-k-preserved c).In-Some) c.if-start-gt-START.false c.end.ensures
    (sym c.from.ensures ∙ c.if-from-end.false))

pub returns : goal.returns
returns c =
    let all = pair_end c.args.plan.now.starts.now c.args.ends.now c.into_iter-k-iterator.result (cc) (cc) (cc) c.loop-k.yielded c.loop-k.k-iterator c.next.new.self c.loop-k.yielded_by c.in-None.is c.next.ensures.steps in
    rows_done c.loop-k.invariant (paths_count _ _ c.args.plan.now.count) (omega (arith, all, c.requires))
