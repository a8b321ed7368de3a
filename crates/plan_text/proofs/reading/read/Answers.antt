-- The job, the text's length, its lines, the room.
use Rattle.std.proofs.Common.{◌≡◌, Err, [], sym, ◌∙◌, rules, arith, length-take-le}
use Rattle.plan_text.proofs.ReadingBack.{back_no_job, back_too_long, back_lines_refused, found_room, back_no_room, back_copied}
use Rattle.plan_text.proofs.reading.read.Goals as goal

pub returns-in_err-tables : goal.returns-in_err-tables
returns-in_err-tables c =
    let e : c.from_residual.result ≡ Err c.in_err-tables.field-0.0 = search rules in
    rw e (back_no_job _ _ _ _ c.in_err-tables.ensures)

pub returns-then-text-gt-TEXT : goal.returns-then-text-gt-TEXT
returns-then-text-gt-TEXT c = back_too_long _ _ _ c.in_ok-tables.ensures c.if-text-gt-TEXT.true

pub returns-in_err-find_starts : goal.returns-in_err-find_starts
returns-in_err-find_starts c =
    let e : c.from_residual-in_err-find_starts.result ≡ Err c.in_err-find_starts.field-0.0 = search rules in
    rw e (back_lines_refused _ _ _ c.in_ok-tables.ensures c.if-text-gt-TEXT.false _ c.in_err-find_starts.ensures)

pub returns-then-packets-starts : goal.returns-then-packets-starts
returns-then-packets-starts c = back_no_room _ _ _ c.in_ok-tables.ensures c.if-text-gt-TEXT.false _ c.in_ok-find_starts.ensures c.if-packets-starts.true

pub slice_bounds-found-end : goal.slice_bounds-found-end
slice_bounds-found-end c = omega (arith, found_room _ _ [] c.in_ok-tables.ensures c.if-text-gt-TEXT.false _ c.in_ok-find_starts.ensures)

pub slice_bounds-copy_from_slice-end-3 : goal.slice_bounds-copy_from_slice-end-3
slice_bounds-copy_from_slice-end-3 c =
    sym (length-take-le _ _ (omega (arith, found_room _ _ [] c.in_ok-tables.ensures c.if-text-gt-TEXT.false _ c.in_ok-find_starts.ensures)))

pub copy_from_slice-requires : goal.copy_from_slice-requires
copy_from_slice-requires c =
    length-take-le _ _ (omega (arith, c.if-packets-starts.false))
    ∙ sym (length-take-le _ _ (omega (arith, found_room _ _ [] c.in_ok-tables.ensures c.if-text-gt-TEXT.false _ c.in_ok-find_starts.ensures)))

pub returns : goal.returns
returns c =
    back_copied _ _ _ c.in_ok-tables.ensures c.if-text-gt-TEXT.false _ c.in_ok-find_starts.ensures c.if-packets-starts.false
    (omega arith) c.copy_from_slice.ensures.after
