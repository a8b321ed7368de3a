-- The next room begins after the loads of the links before it.
use Rattle.std.proofs.Common.{length, ◌-◌}
use Rattle.planner.proofs.RoomsOpened.{Opened}
use Rattle.planner.proofs.entries.open.Given as goal

abbrev pub invariant-loop-load : goal.invariant-loop-load
invariant-loop-load l = Opened l.places l.initial.nexts l.firsts l.nexts l.link l.place

abbrev pub decreases-loop-load : goal.decreases-loop-load
decreases-loop-load l = length l.initial.nexts - l.link
