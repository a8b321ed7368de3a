-- Packets in lists: what the planner's own functions need of the lists, and the packets listed before one.
use Rattle.std.specs.Prelude.{◌≡◌, Bool, true, ℕ, zero, suc, ◌≤◌, ◌<◌, length, get_or, take}
use mathlib.Core.List.{List, [], map, Memᴰ}
use Rattle.rules.specs.Sizes.{links_most, hops_most, start_most}
use Rattle.rules.specs.Network.{paths_from}
use Rattle.rules.specs.Tables.{stops_agree}
use Rattle.rules.specs.Travel.{one_step}
use Rattle.rules.specs.Claims.{Claim, link_claims, Placed, place, placed_by, takes}
use Rattle.rules.specs.Greedy.{greedy_after}
use Rattle.theorems.specs.Simple.{Simple}

-- the stops fit the hops, which are few as the links are, and every path is simple: so it is in an accepted job
pub record SimplePaths (stops hops : List ℕ) : Type 0 where
  pub agree : stops_agree 0 stops (length hops) ≡ true
  pub few : length hops ≤ hops_most
  pub simple : (p : List ℕ) → Memᴰ p (paths_from 0 stops hops) → Simple links_most p

-- what a packet with this path claims: its links, each a step after the one before
abbrev pub path_claims : List ℕ → List Claim
path_claims path = link_claims one_step 0 path

-- where packet k's path begins in the hops: where the one before stops, and at a for the first
abbrev pub begin_from : ℕ → List ℕ → ℕ → ℕ
begin_from a stops zero = a
begin_from a stops (suc k) = get_or stops k 0

-- packet k's path
unfoldable pub path_at : List ℕ → List ℕ → ℕ → List ℕ
path_at stops hops k = get_or (paths_from 0 stops hops) k []

-- packet j enters the link in the step
unfoldable pub packet_enters : (stops hops starts : List ℕ) (j link step : ℕ) → Bool
packet_enters stops hops starts j link step = takes (place (get_or starts j 0) (path_claims (path_at stops hops j))) link step

-- all packets, with their starts
abbrev pub packets : (stops hops starts : List ℕ) → List Placed
packets stops hops starts = placed_by path_claims starts (paths_from 0 stops hops)

-- no start is too late: so it is where they are accepted
abbrev pub InTime : List ℕ → Type 0
InTime starts = (s : ℕ) → Memᴰ s starts → s ≤ start_most

-- hop stands on packet k's path
pub record OnPath (stops : List ℕ) (hop k : ℕ) : Type 0 where
  pub listed : k < length stops
  pub begun : begin_from 0 stops k ≤ hop
  pub ahead : hop < get_or stops k 0

-- the packets listed before packet k, with their starts
unfoldable pub before : List ℕ → List ℕ → List ℕ → ℕ → List Placed
before stops hops starts k = placed_by path_claims (take k starts) (take k (paths_from 0 stops hops))

-- the greedy starts of all packets
unfoldable pub greedy_starts : List ℕ → List ℕ → List ℕ
greedy_starts stops hops = greedy_after [] (map path_claims (paths_from 0 stops hops))
