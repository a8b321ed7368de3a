-- A place that is not at the cut lies before it, so that it may move on.
use Rattle.std.proofs.Common.{arith}
use Rattle.planner.proofs.PartsCut.{walked_turn, walked_to_cut}
use Rattle.planner.proofs.repeats.first_beyond.Goals as goal

pub returns-then-firsts-link : goal.returns-then-firsts-link
returns-then-firsts-link c = walked_to_cut c.loop-hop.invariant c.loop-hop-test.true c.from-link.ensures c.if-firsts-link.true

pub loop-hop-preserved : goal.loop-hop-preserved
loop-hop-preserved c =
    walked_turn c.loop-hop.invariant c.loop-hop-test.true c.from-link.ensures
    (omega (arith, c.requires.0 c.loop-hop.hop, c.from-link.ensures, c.loop-hop.invariant.long))
    (omega (arith, c.loop-hop.invariant.short c.from-link.result))
