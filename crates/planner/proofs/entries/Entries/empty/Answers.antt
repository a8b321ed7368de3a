-- Every place is 0.
use Rattle.std.proofs.Common.{arith}
use Rattle.counting.proofs.Places.{zero_at}
use Rattle.rules.specs.Sizes.{links_most, hops_most}
use Rattle.planner.proofs.entries.Entries.empty.Goals as goal

pub invariant_of-result-clause-steps_fit : goal.invariant_of-result-clause-steps_fit
invariant_of-result-clause-steps_fit c = λ i. omega (arith, zero_at hops_most i)

pub returns : goal.returns
returns c = (zero_at links_most, zero_at links_most)
