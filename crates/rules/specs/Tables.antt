-- Document 01, "Refusals and their order": which lists are a job, and else which refusal, in the order of its paragraph on
-- tables, with 15 of document 02, request 3. The refusals of one link and of one packet serve job text too: there the place is the line.
use Rattle.std.specs.Prelude.{Bool, not, ◌&&◌, List, [], ◌∷◌, ◌++◌, ℕ, suc, eqb, ltb, leb, length}
use Rattle.std.proofs.Math.Option.{Option, none, some}
use Rattle.counting.specs.Count.{among}
use Rattle.rules.specs.Sizes.{nodes_most, links_most, packets_most, path_most, hops_most}
use Rattle.rules.specs.Network.{Network, Link, link_at, Job, paths}
use Rattle.rules.specs.Outcome.{Outcome, is, refused, Verdict, fine, must, ◌then◌, onward}

-- one link: 4 for either node, then 5
unfoldable pub link_verdict : ℕ → ℕ → ℕ → ℕ → Verdict
link_verdict nodes place from to =
    must (ltb from nodes) 4 place
    then must (ltb to nodes) 4 place
    then must (not (eqb from to)) 5 place

-- the node that one hop leads to, from the node reached, with the nodes visited so far: else 6, 7 or 8
abbrev pub hop : ℕ → ℕ → List ℕ → Option Link → Outcome ℕ
hop place reached visited none = refused 6 place
hop place reached visited (some link) =
    must (eqb link.from reached) 7 place
    then must (not (among link.to visited)) 8 place
    then is link.to

-- hop by hop; the node reached is the last of those visited
unfoldable pub walk : Network → ℕ → ℕ → List ℕ → List ℕ → Verdict
walk net place reached visited [] = fine
walk net place reached visited (l ∷ ls) =
    onward (hop place reached visited (link_at net l)) (λ node. walk net place node (visited ++ (node ∷ [])) ls)

-- one packet: 3 for its path, 4 for its source, 15 for a path without hops, then its hops
unfoldable pub packet_verdict : Network → ℕ → ℕ → List ℕ → Verdict
packet_verdict net place source path =
    must (leb (length path) path_most) 3 place
    then must (ltb source net.nodes) 4 place
    then must (leb 1 (length path)) 15 place
    then walk net place source (source ∷ []) path

-- the links in order, from number k on
unfoldable pub links_verdict : ℕ → ℕ → List ℕ → List ℕ → Verdict
links_verdict nodes k [] es = fine
links_verdict nodes k (o ∷ os) [] = fine
links_verdict nodes k (o ∷ os) (e ∷ es) = link_verdict nodes k o e then links_verdict nodes (suc k) os es

-- the packets in order, from number k on
unfoldable pub packets_verdict : Network → ℕ → List ℕ → List (List ℕ) → Verdict
packets_verdict net k [] ps = fine
packets_verdict net k (s ∷ ss) [] = fine
packets_verdict net k (s ∷ ss) (p ∷ ps) = packet_verdict net k s p then packets_verdict net (suc k) ss ps

-- no stop is less than the one before it (a, for the first), and the last (a, where there is none) is the number of hops
unfoldable pub stops_agree : ℕ → List ℕ → ℕ → Bool
stops_agree a [] hops = eqb a hops
stops_agree a (stop ∷ stops) hops = leb a stop && stops_agree stop stops hops

-- 9, then the sizes, then links and packets
unfoldable pub tables : Job → Verdict
tables j =
    let net = j.network in
    must (eqb (length net.origins) (length net.ends)) 9 0
    then must (eqb (length j.sources) (length j.stops)) 9 0
    then must (stops_agree 0 j.stops (length j.hops)) 9 0
    then must (leb 1 net.nodes && leb net.nodes nodes_most) 3 0
    then must (leb (length net.origins) links_most) 3 0
    then must (leb (length j.sources) packets_most) 3 0
    then must (leb (length j.hops) hops_most) 3 0
    then links_verdict net.nodes 0 net.origins net.ends
    then packets_verdict net 0 j.sources (paths j)
