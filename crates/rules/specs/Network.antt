-- Document 01, "The network and its steps": nodes, links, packets. A job is held as the lists of "Refusals and their
-- order", Tables: links by their origins and ends, packets by their sources and by where each path stops in the list of hops.
use Rattle.std.specs.Prelude.{List, [], ◌∷◌, ℕ}
use Rattle.std.proofs.Math.Option.{Option, none, some}
use Rattle.std.proofs.Math.ListN.{get_elem?}
use Rattle.std.proofs.Math.Seq.{slice}

-- how many nodes there are, and of each link the node it leaves and the node it enters
pub record Network : Type 0 where
  pub nodes : ℕ
  pub origins : List ℕ
  pub ends : List ℕ

pub record Job : Type 0 where
  pub network : Network
  pub sources : List ℕ
  pub stops : List ℕ
  pub hops : List ℕ

-- where a link leaves, and where it goes
pub record Link : Type 0 where
  pub from : ℕ
  pub to : ℕ

abbrev pub link_of : Option ℕ → Option ℕ → Option Link
link_of none e = none
link_of (some o) none = none
link_of (some o) (some e) = some (record { from = o; to = e })

-- link l, if there is one
unfoldable pub link_at : Network → ℕ → Option Link
link_at net l = link_of (get_elem? net.origins l) (get_elem? net.ends l)

-- each path takes the hops from where the one before stopped, the first from a on, up to its own stop
unfoldable pub paths_from : ℕ → List ℕ → List ℕ → List (List ℕ)
paths_from a [] hops = []
paths_from a (stop ∷ stops) hops = slice a stop hops ∷ paths_from stop stops hops

-- the paths of a job's packets, in order: lists of link numbers
unfoldable pub paths : Job → List (List ℕ)
paths j = paths_from 0 j.stops j.hops

-- a packet: the node it starts from, and the links of its path
pub record Packet : Type 0 where
  pub source : ℕ
  pub path : List ℕ

-- sources and paths, one of each
unfoldable pub packets_of : List ℕ → List (List ℕ) → List Packet
packets_of [] ps = []
packets_of (s ∷ ss) [] = []
packets_of (s ∷ ss) (p ∷ ps) = record { source = s; path = p } ∷ packets_of ss ps

-- the packets of a job, in order
unfoldable pub packets : Job → List Packet
packets j = packets_of j.sources (paths j)
