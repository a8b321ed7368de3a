-- The greatest of the loads of the network's links.
use Rattle.std.proofs.Common.{◌∙◌, sym, arith, rules, length-set, length-take-le}
use Rattle.std.proofs.lemmas.Iterator.{YieldsList-from_slice}
use Rattle.std.proofs.lemmas.Iterator.Consumers.{YieldsList-at, YieldsList-from_copied, max_from_yields_List}
use Rattle.plan_text.proofs.Greatest.{greatest_found}
use Rattle.plan_text.proofs.Loads.{few_links, congestion_found}
use Rattle.plan_text.proofs.Plan.congestion.Goals as goal

pub slice_bounds-loads-end : goal.slice_bounds-loads-end
slice_bounds-loads-end c = grind (arith, length-set, few_links _ c.args.self.now.job)

pub slice_bounds-iter-end : goal.slice_bounds-iter-end
slice_bounds-iter-end c = sym (length-take-le _ _ (grind (arith, length-set, few_links _ c.args.self.now.job)))

pub returns : goal.returns
returns c =
    let found = max_from_yields_List c.copied.result c.max.result c.max.ensures.ran
    (YieldsList-from_copied (YieldsList-at c.copied.ensures.source (YieldsList-from_slice _ c.iter.ensures.rest))) in
    c.from.ensures ∙ c.unwrap_or.ensures ∙ greatest_found _ _ found ∙ congestion_found _ c.args.self.now.job _ (λ link l. search rules) (grind (arith, length-set))
