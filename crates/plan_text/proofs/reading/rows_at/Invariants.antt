-- At each step what is left, with what is stored so far, is what was to be found.
use Rattle.std.proofs.Common.{length, ◌-◌}
use Rattle.plan_text.proofs.RowsLeft.{Left}
use Rattle.plan_text.proofs.reading.rows_at.Given as goal

abbrev pub invariant-loop-bad_form : goal.invariant-loop-bad_form
invariant-loop-bad_form l = Left l.text l.fn.starts l.fn.ends l.fn.place l.starts l.ends l.next l.count

abbrev pub decreases-loop-bad_form : goal.decreases-loop-bad_form
decreases-loop-bad_form l = length l.text - l.next.at
