-- The hop of the packet's own path at which the link stands.
use Rattle.std.proofs.Common.{◌<◌, refl, arith}
use Rattle.rules.specs.Sizes.{hops_most}
use Rattle.planner.proofs.EntrySteps.{no_packet, entry_listed, hop_within}
use Rattle.planner.proofs.started.Started.entry.Goals.{In_ok-hop}
use Rattle.planner.proofs.started.Started.entry.Goals as goal

-- a hop of the path is one of few
few : (c : In_ok-hop) → c.in_ok-hop.hop < hops_most
few c =
    let s = c.args.self.now in
    hop_within _ _ s.starts.now c.args.link _ s.as_many c.from-packet.ensures c.in_ok-start.ensures.lookup.3.0 c.path.ensures _ c.in_ok-hop.ensures s.paths.simple refl

pub returns-in_err-start-clause-result_value : goal.returns-in_err-start-clause-result_value
returns-in_err-start-clause-result_value c =
    rw c.from_residual.ensures (no_packet _ _ _ _ _ c.args.self.now.as_many c.from-packet.ensures c.in_err-start.ensures.lookup.3)

pub returns-in_err-hop-clause-result_value : goal.returns-in_err-hop-clause-result_value
returns-in_err-hop-clause-result_value c =
    rw c.from_residual-in_err-hop.ensures
    (entry_listed _ _ _ _ _ c.args.self.now.as_many c.from-packet.ensures c.in_ok-start.ensures.lookup.3.0 c.path.ensures _ c.in_err-hop.ensures)

pub overflow_cast-hop : goal.overflow_cast-hop
overflow_cast-hop c = omega (arith, few (goal.at.overflow_cast-hop c).In_ok-hop)

pub returns-clause-result_value : goal.returns-clause-result_value
returns-clause-result_value c =
    rw (c.of.ensures, c.in_ok-start.ensures.lookup.3.1 0)
    (entry_listed _ _ _ _ _ c.args.self.now.as_many c.from-packet.ensures c.in_ok-start.ensures.lookup.3.0 c.path.ensures _ c.in_ok-hop.ensures)

pub returns-clause-near : goal.returns-clause-near
returns-clause-near c = omega (arith, c.of.ensures, few (goal.at.returns-clause-near c).In_ok-hop)
