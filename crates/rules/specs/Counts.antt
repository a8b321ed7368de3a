-- Document 01, "The network and its steps": ends, routing time, C, D and meetings. All over paths, none over claims.
use Rattle.std.specs.Prelude.{◌&&◌, List, [], ◌∷◌, ◌++◌, ℕ, ◌+◌, max, length}
use Rattle.counting.specs.Count.{bit, among, sum_of, max_of, hits, max_below}
use Rattle.rules.specs.Network.{Job, paths}
use Rattle.rules.specs.Travel.{delay_in, travel}

-- the end of a packet: its start and the steps of its path
unfoldable pub end_of : (ℕ → ℕ) → ℕ → List ℕ → ℕ
end_of delay start path = start + travel delay path

-- the greatest end, 0 without packets
unfoldable pub routing_time : (ℕ → ℕ) → List ℕ → List (List ℕ) → ℕ
routing_time delay [] ps = 0
routing_time delay (s ∷ ss) [] = 0
routing_time delay (s ∷ ss) (p ∷ ps) = max (end_of delay s p) (routing_time delay ss ps)

-- how many of the paths have the link
unfoldable pub load : ℕ → List (List ℕ) → ℕ
load link ps = sum_of (λ p. bit (among link p)) ps

abbrev pub link_count : Job → ℕ
link_count j = length j.network.origins

-- C: the most paths that have one link, 0 without links
unfoldable pub congestion : Job → ℕ
congestion j = max_below (λ link. load link (paths j)) (link_count j)

-- D: the most steps of a path, one a hop; 0 without packets
unfoldable pub dilation : Job → ℕ
dilation j = max_of (travel (delay_in j)) (paths j)

-- how many links below n are on both paths
unfoldable pub shared : ℕ → List ℕ → List ℕ → ℕ
shared n p q = hits (λ link. among link p && among link q) n

-- how many links a path has in common with each of those before, summed
unfoldable pub meetings_with : ℕ → List (List ℕ) → List ℕ → ℕ
meetings_with n before p = sum_of (λ q. shared n p q) before

unfoldable pub meetings_after : ℕ → List (List ℕ) → List (List ℕ) → List ℕ
meetings_after n before [] = []
meetings_after n before (p ∷ ps) = meetings_with n before p ∷ meetings_after n (before ++ (p ∷ [])) ps

-- the meetings of each packet of a job, in order
unfoldable pub meetings : Job → List ℕ
meetings j = meetings_after (link_count j) [] (paths j)
