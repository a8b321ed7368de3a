-- They run from the link's first to its next.
use Rattle.std.proofs.Common.{refl}
use Rattle.planner.specs.Entries.{steps_on}
use Rattle.planner.proofs.entries.Entries.steps_on.Goals as goal

pub returns : goal.returns
unfolding steps_on
returns c = rw (c.from-from.ensures, c.from-to.ensures, c.from.ensures, c.from-2.ensures) refl
