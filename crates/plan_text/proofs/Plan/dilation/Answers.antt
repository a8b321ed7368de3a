-- The greatest of the paths' lengths.
use Rattle.std.proofs.Common.{ap, sym, ◌∙◌, length, get_or, [], arith, rules}
use Rattle.std.proofs.lemmas.Iterator.{YieldsList-from_range, YieldsList-from_map}
use Rattle.std.proofs.lemmas.Iterator.Consumers.{YieldsList-at, max_from_yields_List}
use Rattle.rules.specs.Network.{paths}
use Rattle.theorems.proofs.OneStep.{dilation_hops}
use Rattle.job.specs.Lists.{job_in}
use Rattle.plan_text.proofs.Greatest.{greatest_found, greatest_of, each_place, places_count}
use Rattle.plan_text.proofs.Stops.{paths_count}
use Rattle.plan_text.proofs.Plan.dilation.Goals as goal

pub returns : goal.returns
returns c =
    let plan = c.args.self.now in
    let found = max_from_yields_List c.map.result c.max-longest.result c.max-longest.ensures.ran
    (YieldsList-from_map _ (λ k. length (get_or (paths (job_in plan.lists)) k []))
    (YieldsList-at c.map.ensures.source (YieldsList-from_range 0 (length plan.starts.now) (length plan.starts.now) (ap (λ a. record { start = a; end = length plan.starts.now }) (omega arith)) (omega arith))) c.map.ensures.closure (λ x r q k. search rules)) in
    c.from.ensures ∙ c.unwrap_or.ensures ∙ greatest_found _ _ found ∙ greatest_of _ _ (paths (job_in plan.lists)) [] (places_count _ _ ∙ sym (paths_count _ _ plan.count)) (λ k h. each_place _ k (omega (arith, paths_count (job_in plan.lists) plan.starts.now plan.count))) ∙ sym (dilation_hops _)
