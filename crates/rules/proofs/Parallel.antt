-- Two links from one node to another are two: packets that come to them in one step from two sources, and go on to two destinations,
-- do not wait for each other.
use mathlib.Core.Path.{◌≡◌, refl}
use mathlib.Core.List.{[], ◌∷◌}
use Rattle.rules.specs.Network.{Job, paths_from, paths, packets_of, packets}
use Rattle.rules.specs.Travel.{delay_of}
use Rattle.rules.specs.Claims.{link_claims, claims_of, claims, takes, conflict, blocked}
use Rattle.rules.specs.Greedy.{scan, crossings, first_free, greedy_after, greedy}

-- links 1 and 2 both go from node 2 to node 3; packet 0 goes from node 0 over link 1 to node 4, packet 1 from node 1 over link 2 to
-- node 5
unfoldable pub parallel : Job
parallel =
    record {
      network = record { nodes = 6; origins = 0 ∷ 2 ∷ 2 ∷ 3 ∷ 1 ∷ 3 ∷ []; ends = 2 ∷ 3 ∷ 3 ∷ 4 ∷ 2 ∷ 5 ∷ [] };
      sources = 0 ∷ 1 ∷ [];
      stops = 3 ∷ 6 ∷ [];
      hops = 0 ∷ 1 ∷ 3 ∷ 4 ∷ 2 ∷ 5 ∷ [];
    }

pub parallel_links_do_not_block : greedy parallel ≡ 0 ∷ 0 ∷ []
unfolding parallel paths_from paths packets_of packets delay_of link_claims claims_of claims takes conflict blocked
    scan crossings first_free greedy_after greedy
parallel_links_do_not_block = refl
