-- Its path is the one that `path` hands out.
use Rattle.planner.specs.PacketsInLists.{packet_enters}
use Rattle.planner.proofs.started.Started.enters.Goals as goal

pub returns : goal.returns
unfolding packet_enters
returns c = rw (← c.path.ensures) c.enters.ensures
