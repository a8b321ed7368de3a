-- The link that is counted is one, and no link is met more often than there are hops.
use Rattle.std.proofs.Common.{◌<◌, arith}
use Rattle.rules.specs.Sizes.{links_most}
use Rattle.plan_text.proofs.Loads.{counting_start, load_le, loads_counted, few_hops, hop_below}
use Rattle.plan_text.proofs.Plan.loads.Goals as goal

pub loop-link-init : goal.loop-link-init
loop-link-init c = counting_start _

pub bounds-loads-from : goal.bounds-loads-from
bounds-loads-from c = rw c.from.ensures (hop_below _ c.args.self.now.job _ c.loop-link-test.true)

pub bounds-loads-from-in-loop-link : goal.bounds-loads-from-in-loop-link
bounds-loads-from-in-loop-link c = rw c.from.ensures (hop_below _ c.args.self.now.job _ c.loop-link-test.true)

pub overflow_add-loads : goal.overflow_add-loads
overflow_add-loads c =
    let link : c.from.result < links_most = rw c.from.ensures (hop_below _ c.args.self.now.job _ c.loop-link-test.true) in
    omega (arith, load_le c.loop-link.invariant _ link, few_hops _ c.args.self.now.job)

pub returns : goal.returns
returns c = loads_counted _ c.args.self.now.job c.loop-link.invariant c.loop-link-test.false
