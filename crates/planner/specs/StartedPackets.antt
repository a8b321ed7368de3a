-- The packets that have their starts, as the rules see them.
use Rattle.std.specs.Prelude.{List, ℕ}
use Rattle.rules.specs.Network.{paths_from}
use Rattle.rules.specs.Claims.{Placed}
use Rattle.planner.specs.PacketsInLists.{packets, before}
use Rattle.planner.specs.declared.started.Started.{Started}

abbrev pub paths_in : Started → List (List ℕ)
paths_in s = paths_from 0 s.paths.stops.now s.paths.hops.now

-- all of them
abbrev pub packets_in : Started → List Placed
packets_in s = packets s.paths.stops.now s.paths.hops.now s.starts.now

-- those listed before packet k
abbrev pub before_in : Started → ℕ → List Placed
before_in s k = before s.paths.stops.now s.paths.hops.now s.starts.now k
