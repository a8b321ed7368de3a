-- What is counted, with the hops that are left, is how often each link is among the hops.
use Rattle.plan_text.proofs.Loads.{Counting}
use Rattle.plan_text.proofs.Plan.loads.Given as goal

abbrev pub invariant-loop-link : goal.invariant-loop-link
invariant-loop-link l = Counting l.self.lists.hops.now l.loads l.link-index
