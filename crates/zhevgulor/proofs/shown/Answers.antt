-- Nothing, four numbers in the first four places, or a room that is too short.
use Rattle.std.proofs.Common.{arith}
use Rattle.zhevgulor.proofs.ToldToC.{nothing_shown, four_short, four_written}
use Rattle.zhevgulor.proofs.shown.Goals as goal

pub returns-in_default : goal.returns-in_default
returns-in_default c = rw c.in_default.is (nothing_shown _)

pub returns-then-numbers-lt4 : goal.returns-then-numbers-lt4
returns-then-numbers-lt4 c = rw c.in-Some.is (four_short _ _ _ _ _ (omega arith))

pub returns : goal.returns
returns c =
    rw (c.in-Some.is, c.copy_from_slice.ensures.after, c.from.ensures, c.from-2.ensures, c.from-3.ensures)
    (four_written _ _ _ _ _ (omega arith))
