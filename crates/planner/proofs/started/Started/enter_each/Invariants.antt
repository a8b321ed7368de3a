-- What is entered so far, and what the packets that are left will enter, together are what all enter.
use Rattle.std.proofs.Common.{◌≡◌}
use Rattle.planner.proofs.EveryPacket.{EnteredToPacket}
use Rattle.planner.proofs.started.Started.enter_each.Given as goal

abbrev pub invariant-loop-packet : goal.invariant-loop-packet
invariant-loop-packet l =
    (l.entries.firsts ≡ l.initial.entries.firsts)
    × EnteredToPacket l.self.paths.stops.now l.self.paths.hops.now l.self.starts.now l.initial.entries.nexts l.initial.entries.steps l.entries.nexts l.entries.steps l.packet
