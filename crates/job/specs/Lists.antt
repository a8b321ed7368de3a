-- The lists that code is lent, as a job of the rules.
use Rattle.std.specs.Prelude.{Bool, false, eqb, ◌&&◌, List, ℕ, leb, length, slice_get, Option, None, Some}
use Rattle.std.proofs.Math.Option.{Option as Maybe, none, some}
use Rattle.std.specs.List.{filter_map}
use Rattle.rules.specs.Sizes.{nodes_most, links_most, packets_most, hops_most}
use Rattle.rules.specs.Network.{Network, Link, Job}
use Rattle.rules.specs.Tables.{stops_agree}
use Rattle.job.specs.declared.Network.{Network as NetworkLists}
use Rattle.job.specs.declared.JobLists.{JobLists}

abbrev pub network_of : ℕ → List ℕ → List ℕ → Network
network_of nodes origins ends = record { nodes = nodes; origins = origins; ends = ends }

abbrev pub job_of : ℕ → (origins ends sources stops hops : List ℕ) → Job
job_of nodes origins ends sources stops hops =
    record { network = network_of nodes origins ends; sources = sources; stops = stops; hops = hops }

abbrev pub network_in : NetworkLists → Network
network_in network = network_of network.nodes network.origins.now network.ends.now

abbrev pub job_in : JobLists → Job
job_in lists = record { network = network_in lists.network; sources = lists.sources.now; stops = lists.stops.now; hops = lists.hops.now }

-- a link that was looked up: where it leaves and where it goes
abbrev pub link_found : Option (ℕ × ℕ) → Maybe Link
link_found None = none
link_found (Some link) = some (record { from = link.0; to = link.1 })

-- whether it is that node, if there is one
abbrev pub is_node : Option ℕ → ℕ → Bool
is_node None node = false
is_node (Some n) node = eqb n node

-- the nodes that these links enter
unfoldable pub entered : List ℕ → List ℕ → List ℕ
entered ends links = filter_map (slice_get ends) links

-- whether a job's lists agree, in one test
abbrev pub lists_agree : Job → Bool
lists_agree j =
    eqb (length j.network.origins) (length j.network.ends)
    && eqb (length j.sources) (length j.stops)
    && stops_agree 0 j.stops (length j.hops)

-- the sizes of a job's tables, in one test
abbrev pub sizes_fit : Job → Bool
sizes_fit j =
    leb 1 j.network.nodes
    && leb j.network.nodes nodes_most
    && leb (length j.network.origins) links_most
    && leb (length j.sources) packets_most
    && leb (length j.hops) hops_most
