-- Where each of its entries is later than the one before it none repeats.
use Rattle.planner.proofs.PartsCut.{later_new}
use Rattle.planner.proofs.repeats.cut.Goals as goal

pub returns-then-each_later-clause-first_repeat : goal.returns-then-each_later-clause-first_repeat
returns-then-each_later-clause-first_repeat c = later_new _ (rw (c.from.ensures, c.from-2.ensures) at (c.each_later.ensures.0 c.if-each_later.true))
