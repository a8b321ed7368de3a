-- Each turn judges the first packet that is left, whose path lies within the hops.
use Rattle.std.proofs.Common.{◌≡◌, true, ◌+◌, ◌≤◌, ◌<◌, length, get_or, drop, Err, refl, sym, ◌∙◌, arith, rules}
use Rattle.rules.specs.Network.{paths}
use Rattle.rules.specs.Tables.{stops_agree}
use Rattle.job.proofs.Pairs.{AtPair}
use Rattle.job.proofs.VerdictLoops.{stops_part, packets_refused, packets_on, packets_done}
use Rattle.job.proofs.JobLists.packets_verdict.Goals.{After-from-to}
use Rattle.job.proofs.JobLists.packets_verdict.Goals as goal

here : (c : After-from-to)
    → let j = c.args.self.now in
    AtPair j.sources.now j.stops.now c.loop-k.k (c.loop-k.k, (get_or j.sources.now c.loop-k.k 0, get_or j.stops.now c.loop-k.k 0))
here c = record { first = omega arith; second = omega arith; number = refl; one = refl; other = refl }

-- the path that is lent lies within the hops
part : (c : After-from-to)
    → let j = c.args.self.now in
    let to = c.from-to.result in
    let hops = length j.hops.now in
    (c.loop-k.from ≤ to) × (to ≤ hops) × (stops_agree to (drop (c.loop-k.k + 1) j.stops.now) hops ≡ true)
part c = stops_part c.args.self.now.hops.now _ c.args.self.now.stops.now c.loop-k.k c.from-to.ensures (here c).second c.loop-k.invariant.0

pub loop-k-init : goal.loop-k-init
unfolding paths
loop-k-init c = (c.requires.2, refl)

pub offset_bounds-self-from : goal.offset_bounds-self-from
offset_bounds-self-from c = omega (arith, part (goal.at.offset_bounds-self-from c).After-from-to)

pub slice_bounds-path-count : goal.slice_bounds-path-count
slice_bounds-path-count c = (part (goal.at.slice_bounds-path-count c).After-from-to).0

pub slice_bounds-path-start : goal.slice_bounds-path-start
slice_bounds-path-start c = (part (goal.at.slice_bounds-path-start c).After-from-to).0

pub slice_bounds-path-end : goal.slice_bounds-path-end
slice_bounds-path-end c = (part (goal.at.slice_bounds-path-end c).After-from-to).1

pub returns-in_err-packet_verdict : goal.returns-in_err-packet_verdict
returns-in_err-packet_verdict c =
    let e : c.from_residual.result ≡ Err c.in_err-packet_verdict.field-0.0 = search rules in
    let at = here (goal.at.returns-in_err-packet_verdict c).After-from-to in
    rw e (sym (c.loop-k.invariant.1 ∙ packets_refused _ _ _ _ _ _ at c.from-to.ensures c.in_err-packet_verdict.ensures))

pub loop-k-preserved : goal.loop-k-preserved
loop-k-preserved c =
    let at = here (goal.at.loop-k-preserved c).After-from-to in
    ((part (goal.at.loop-k-preserved c).After-from-to).2, c.loop-k.invariant.1 ∙ packets_on _ _ _ _ _ _ at c.from-to.ensures c.in_ok-packet_verdict.ensures)

pub returns : goal.returns
returns c = sym (c.loop-k.invariant.1 ∙ packets_done _ _ _ _ _ _ (omega arith))
