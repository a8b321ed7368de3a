-- A packet is at its end as many steps after its start as it has hops.
use Rattle.plan_text.proofs.Stops.{end-hops}
use Rattle.plan_text.proofs.Plan.end.Goals as goal

pub returns : goal.returns
returns c = end-hops _ _ c.of.ensures c.hop_count.ensures
