-- Each link's place has moved on by the hops so far, and none of them stood at its cut.
use Rattle.planner.proofs.PartsCut.{WalkedTo}
use Rattle.planner.proofs.repeats.first_beyond.Given as goal

abbrev pub invariant-loop-hop : goal.invariant-loop-hop
invariant-loop-hop l = WalkedTo l.hops l.initial.firsts l.cuts l.firsts l.hop
