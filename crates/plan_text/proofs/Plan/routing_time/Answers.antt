-- The greatest of the packets' ends.
use Rattle.std.proofs.Common.{ap, sym, ◌∙◌, length, get_or, [], arith, rules}
use Rattle.std.proofs.lemmas.Iterator.{YieldsList-from_range, YieldsList-from_map}
use Rattle.std.proofs.lemmas.Iterator.Consumers.{YieldsList-at, max_from_yields_List}
use Rattle.rules.specs.Network.{paths}
use Rattle.rules.specs.Travel.{one_step}
use Rattle.rules.specs.Counts.{end_of}
use Rattle.job.specs.Lists.{job_in}
use Rattle.plan_text.proofs.Greatest.{greatest_found, latest_end, each_place, places_count}
use Rattle.plan_text.proofs.Stops.{paths_count}
use Rattle.plan_text.proofs.Plan.routing_time.Goals as goal

pub returns : goal.returns
returns c =
    let plan = c.args.self.now in
    let found = max_from_yields_List c.map.result c.max-latest.result c.max-latest.ensures.ran
    (YieldsList-from_map _ (λ k. end_of one_step (get_or plan.starts.now k 0) (get_or (paths (job_in plan.lists)) k []))
    (YieldsList-at c.map.ensures.source (YieldsList-from_range 0 (length plan.starts.now) (length plan.starts.now) (ap (λ a. record { start = a; end = length plan.starts.now }) (omega arith)) (omega arith))) c.map.ensures.closure (λ x r q k. search rules)) in
    c.unwrap_or.ensures ∙ greatest_found _ _ found ∙ latest_end _ _ plan.starts.now (paths (job_in plan.lists)) (places_count _ _) (sym (paths_count _ _ plan.count)) (each_place _)
