-- The first hop at its link's cut is the first that enters it in a step again, and where nothing was cut none does.
use Rattle.planner.proofs.StepsRepeated.{first_beyond_again, never_again}
use Rattle.planner.proofs.entries.Entries.first_again.Goals as goal

pub returns-then-shorter : goal.returns-then-shorter
returns-then-shorter c = λ all order. first_beyond_again order _ c.cut_at_repeats-shorter.ensures.cut c.first_beyond.ensures

pub returns-else-shorter : goal.returns-else-shorter
returns-else-shorter c =
    let e = c.cut_at_repeats-shorter.ensures in
    λ all order. never_again order e.cut (e.whole c.if-shorter.false)
