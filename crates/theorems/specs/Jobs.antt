-- What an accepted job is, and an accepted job with starts: sizes within their limits, links between two nodes of the network,
-- packets on paths of it, of one hop at least, and a start in time for each.
use Rattle.std.specs.Prelude.{◌≡◌, ℕ, ◌≤◌, ◌<◌, length}
use mathlib.Core.List.{List, ◌∷◌, Memᴰ}
use Rattle.std.proofs.Math.Option.{some}
use Rattle.std.proofs.Math.ListN.{get_elem?}
use Rattle.rules.specs.Sizes.{nodes_most, links_most, packets_most, path_most, hops_most, start_most}
use Rattle.rules.specs.Network.{Network, Job, paths}
use Rattle.rules.specs.Path.{IsPath}

-- the statement holds of what stands at one place in both lists, at every place
abbrev pub AtEach : {A B : Type 0} → (A → B → Type 0) → List A → List B → Type 0
AtEach {A} {B} P xs ys = (i : ℕ) (x : A) (y : B) → get_elem? xs i ≡ some x → get_elem? ys i ≡ some y → P x y

-- a link of a network with so many nodes
pub record IsLink (nodes from to : ℕ) : Type 0 where
  pub from_node : from < nodes
  pub to_node : to < nodes
  pub apart : from ≡ to → ⊥

-- a packet of the network
pub record IsPacket (net : Network) (source : ℕ) (path : List ℕ) : Type 0 where
  pub short : length path ≤ path_most
  pub source_node : source < net.nodes
  pub some_hop : 1 ≤ length path
  pub on_path : IsPath net source path

-- where the paths stop in the hops: no stop is less than the one before it (`first`, before the first), and the last (`first`,
-- where there is none) is the number of hops
pub record StopsFit (first : ℕ) (stops : List ℕ) (hops : ℕ) : Type 0 where
  pub rise : AtEach ◌≤◌ (first ∷ stops) stops
  pub last : get_elem? (first ∷ stops) (length stops) ≡ some hops

-- a job that is accepted
pub record IsJob (j : Job) : Type 0 where
  pub ends_count : length j.network.ends ≡ length j.network.origins
  pub stops_count : length j.stops ≡ length j.sources
  pub stops_fit : StopsFit 0 j.stops (length j.hops)
  pub some_nodes : 1 ≤ j.network.nodes
  pub few_nodes : j.network.nodes ≤ nodes_most
  pub few_links : length j.network.origins ≤ links_most
  pub few_packets : length j.sources ≤ packets_most
  pub few_hops : length j.hops ≤ hops_most
  pub links : AtEach (IsLink j.network.nodes) j.network.origins j.network.ends
  pub packets : AtEach (IsPacket j.network) j.sources (paths j)

-- an accepted job and a start for each of its packets, none too late
pub record IsStarted (j : Job) (starts : List ℕ) : Type 0 where
  pub job : IsJob j
  pub count : length starts ≡ length j.sources
  pub in_time : (s : ℕ) → Memᴰ s starts → s ≤ start_most
