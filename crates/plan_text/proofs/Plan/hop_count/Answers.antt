-- The stop before is the last of those before, and the stops rise.
use Rattle.std.proofs.Common.{◌∙◌, arith}
use Rattle.plan_text.proofs.Stops.{stop_before, path_hops, stop_rises}
use Rattle.plan_text.proofs.Plan.hop_count.Goals as goal

pub overflow_sub-result : goal.overflow_sub-result
overflow_sub-result c =
    rw (stop_before c.args.self.now.lists.stops.now c.args.k c.unwrap_or-before.ensures (c.copied.ensures ∙ c.last.ensures.value) (omega arith))
    (stop_rises _ c.args.self.now.job c.args.k (omega arith))

pub returns : goal.returns
returns c =
    rw (stop_before c.args.self.now.lists.stops.now c.args.k c.unwrap_or-before.ensures (c.copied.ensures ∙ c.last.ensures.value) (omega arith))
    (path_hops _ c.args.self.now.job c.args.k (omega arith))
