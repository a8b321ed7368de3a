-- With the word in hand put back the start is marked, and where there is none nothing changes.
use Rattle.std.proofs.Common.{◌≡◌, ◌≤◌, ◌<◌, ◌-◌, arith}
use Rattle.marks.proofs.Marking.{no_start, start_in_hand}
use Rattle.marks.proofs.mark_start.Goals as goal

pub returns-in_default : goal.returns-in_default
returns-in_default c =
    let h : c.args.step < c.args.offset = omega (arith, c.in_default.ensures, c.from.ensures) in
    no_start _ _ _ h

pub returns : goal.returns
returns c =
    let e = c.change.ensures in
    let s = c.in-Some.ensures in
    let h : c.args.offset ≤ c.args.step = omega (arith, s.0, c.from.ensures) in
    let n : c.args.step - c.args.offset ≡ c.in-Some.n = omega (arith, s.1, c.from.ensures) in
    rw (c.with_mark.ensures.0, c.with_mark.ensures.1, ← n) (start_in_hand _ _ _ _ _ h (rw n e.at_value.0) (rw n e.at_value.1) (rw n e.put))
