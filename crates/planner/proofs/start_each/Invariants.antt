-- Before packet k the list is the first k greedy starts, and then what was lent; the entries are those of these packets.
use Rattle.std.proofs.Common.{take, drop, ◌++◌, ◌≡◌}
use Rattle.planner.specs.PacketsInLists.{greedy_starts}
use Rattle.planner.specs.Entries.{EntriesBefore}
use Rattle.planner.proofs.start_each.Given as goal

abbrev pub invariant-loop-k : goal.invariant-loop-k
invariant-loop-k l =
    (l.starts ≡ take l.k (greedy_starts l.paths.stops.now l.paths.hops.now) ++ drop l.k l.initial.starts)
    × EntriesBefore l.paths.stops.now l.paths.hops.now l.starts l.k l.entries.firsts l.entries.nexts l.entries.steps
