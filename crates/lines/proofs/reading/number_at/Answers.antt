-- The digits that are read are those before a place, from the first on.
use Rattle.std.proofs.Common.{arith, refl}
use Rattle.lines.proofs.DigitsBehind.{first_digit, digits_turn}
use Rattle.lines.proofs.reading.number_at.Goals as goal

pub loop-i-init : goal.loop-i-init
loop-i-init c =
    let first = c.in-Some.ensures.lookup.3 in
    let byte = first.1 0 in
    let digit = c.if-not-is_ascii_digit.ensures.cases in
    record { last = refl; digits = first_digit _ _ first.0 (omega arith) (omega arith) (omega arith) }

pub loop-i-preserved : goal.loop-i-preserved
loop-i-preserved c =
    record { last = c.loop-i.invariant.last; digits = digits_turn c.loop-i.invariant.digits (omega arith) (omega arith) (omega arith) (omega arith) (omega arith) }
