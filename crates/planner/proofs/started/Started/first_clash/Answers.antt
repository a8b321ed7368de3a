-- The first hop that enters its link again shows the clash, and where there is none all is clear.
use Rattle.std.proofs.Common.{◌∙◌, rules}
use Rattle.planner.proofs.ClashFound.{nothing-found, clash_found}
use Rattle.planner.proofs.started.Started.first_clash.Goals as goal

pub returns-in_err-hop : goal.returns-in_err-hop
returns-in_err-hop c =
    let s = c.args.self.now in
    let clear = nothing-found _ _ _ s.paths.simple s.as_many c.in_err-hop.ensures in
    search rules

pub returns : goal.returns
returns c =
    let s = c.args.self.now in
    c.clash_at.ensures
    ∙ clash_found _ _ _ s.paths.simple s.as_many _ c.in_ok-hop.ensures _ _ _ c.packet_of-later.ensures
    c.begin-from.ensures c.of-step.ensures
