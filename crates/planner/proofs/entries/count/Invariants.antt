-- What is counted, with the hops that are left, is the load of each link.
use Rattle.planner.proofs.RoomsOpened.{CountedTo}
use Rattle.planner.proofs.entries.count.Given as goal

abbrev pub invariant-loop-link : goal.invariant-loop-link
invariant-loop-link l = CountedTo l.hops l.initial.loads l.loads l.link-index
