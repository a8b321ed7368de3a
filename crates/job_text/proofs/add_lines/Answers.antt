-- Each turn takes the line at the cursor, and a refusal of it refuses the whole.
use Rattle.std.proofs.Common.{◌≡◌, Err, rules, arith}
use Rattle.lines.proofs.BehindPlaces.{rest-length}
use Rattle.job_text.specs.Told.{lists_in, SameLengths}
use Rattle.job_text.proofs.OneLine.{told_from}
use Rattle.job_text.proofs.LineByLine.{going_bad, going_refused, going_on, going_end, moved_at}
use Rattle.job_text.proofs.add_lines.Goals as goal

pub returns-in_default-clause-took : goal.returns-in_default-clause-took
returns-in_default-clause-took c = going_bad c.loop-cursor.invariant.0 c.loop-cursor-test.true c.in_default.ensures.told

pub returns-in_err-add_line-clause-took : goal.returns-in_err-add_line-clause-took
returns-in_err-add_line-clause-took c =
    let e : c.from_residual.result ≡ Err c.in_err-add_line.field-0.0 = search rules in
    let f = c.in-Some.ensures in
    rw e (going_refused c.loop-cursor.invariant.0 c.loop-cursor-test.true c.line_at.new.hops f.before c.from.ensures (c.in_err-add_line.ensures.took _ (told_from f.told.line c.from.ensures)))

pub loop-cursor-smaller : goal.loop-cursor-smaller
loop-cursor-smaller c =
    let f = c.in-Some.ensures in
    omega (arith, moved_at c.moved-cursor.ensures, f.told.ends, f.told.fed, rest-length c.args.text.now c.loop-cursor.cursor.at)

pub loop-cursor-preserved : goal.loop-cursor-preserved
loop-cursor-preserved c =
    let f = c.in-Some.ensures in
    let t = c.in_ok-add_line.ensures in
    let long : SameLengths (lists_in c.loop-cursor.lists) (lists_in c.add_line.new.lists) = search rules in (
      going_on c.loop-cursor.invariant.0 c.loop-cursor-test.true c.line_at.new.hops f.before c.from.ensures c.in-Some.found.end (t.took _ (told_from f.told.line c.from.ensures)) c.counted-begun.ensures long f.told.ends c.moved-cursor.ensures,
      search rules,
    )

pub returns-clause-took : goal.returns-clause-took
returns-clause-took c = going_end c.loop-cursor.invariant.0 c.loop-cursor-test.false
