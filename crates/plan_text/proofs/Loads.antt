-- How often each link is among the hops. No path has a link twice, so that is how many paths have it.
use mathlib.Core.Path.{◌≡◌, ◌∙◌}
use mathlib.Core.Bool.{Bool}
use mathlib.Core.List.{List, [], ◌∷◌}
use Prim.Native.Nat.{ℕ, ◌+◌, ◌≤◌, ◌<◌}
use native.Mathlib.Omega.{arith}
use lib.Dec.{eqb}
use lib.ListN.{length, get_or, take, drop, replicate, length-replicate, get_or-replicate, drop_of_length-le}
use Rattle.counting.specs.Count.{bit, any_of, among, occurs, sum_of}
use Rattle.counting.proofs.Sums.{bit-le-one, bit_or, sum_le, sum_same, sum_const, sum_le_any}
use Rattle.counting.proofs.Places.{at_mem, at-get_or}
use Rattle.rules.specs.Sizes.{links_most, hops_most}
use Rattle.rules.specs.Network.{Job, paths_from, paths}
use Rattle.rules.specs.Outcome.{fine}
use Rattle.rules.specs.Tables.{tables}
use Rattle.rules.specs.Counts.{load, congestion}
use Rattle.theorems.proofs.Accepted.{job_stops_agree}
use Rattle.theorems.proofs.HopsOnPaths.{sum_paths, mem-paths}
use Rattle.theorems.proofs.Demands.{packets_simple}
use Rattle.plan_text.proofs.Stops.{accepted_job}
use Rattle.plan_text.proofs.Greatest.{greatest, greatest_below}

occurs-le : (link : ℕ) (hops : List ℕ) → occurs link hops ≤ length hops
occurs-le link hops = omega (arith, sum_le (λ l. bit (eqb l link)) (λ l. 1) hops (λ l m. bit-le-one (eqb l link)), sum_const 1 hops)

any_le_sum : (f : ℕ → Bool) (xs : List ℕ) → bit (any_of f xs) ≤ sum_of (λ x. bit (f x)) xs
any_le_sum f [] = omega arith
any_le_sum f (x ∷ xs) = omega (arith, bit_or (f x) (any_of f xs), any_le_sum f xs)

-- ---- what is counted, with the hops that are left, is the whole

pub record Counting (hops loads : List ℕ) (i : ℕ) : Type 0 where
  pub long : length loads ≡ links_most
  pub left : (link : ℕ) → link < links_most → get_or loads link 0 + occurs link (drop i hops) ≡ occurs link hops

pub counting_start : (hops : List ℕ) → Counting hops (replicate links_most 0) 0
counting_start hops = record {
  long = length-replicate {A = ℕ} links_most 0;
  left = λ link h. rw (get_or-replicate {A = ℕ} links_most link 0 0 h) (omega arith);
}

module _ {hops loads : List ℕ} {i : ℕ} (w : Counting hops loads i) where
  pub load_le : (link : ℕ) → link < links_most → get_or loads link 0 ≤ length hops
  load_le link h = omega (arith, w.left link h, occurs-le link hops)

  counted : length hops ≤ i → (link : ℕ) → link < links_most → get_or loads link 0 ≡ occurs link hops
  counted h link m = omega (arith, rw (drop_of_length-le hops {i = i} h) at (w.left link m))

-- ---- no path has a link twice

-- a link that is on a path once at most is met as often as it is on it
occurs_once : (link : ℕ) (path : List ℕ) → occurs link path ≤ 1 → occurs link path ≡ bit (among link path)
occurs_once link path h = omega (arith, sum_le_any (λ l. eqb l link) path h, any_le_sum (λ l. eqb l link) path)

module _ (j : Job) (t : tables j ≡ fine) where
  load-occurs : (link : ℕ) → occurs link j.hops ≡ load link (paths j)
  unfolding load paths
  load-occurs link =
      sum_paths (λ l. bit (eqb l link)) 0 j.stops j.hops (job_stops_agree j (accepted_job j t))
      ∙ sum_same _ _ (paths_from 0 j.stops j.hops) (λ p m. occurs_once link p ((packets_simple j (accepted_job j t) p m).once link))

  pub few_links : length j.network.origins ≤ links_most
  few_links = (accepted_job j t).few_links

  pub few_hops : length j.hops ≤ hops_most
  few_hops = (accepted_job j t).few_hops

  pub hop_below : (i : ℕ) → i < length j.hops → get_or j.hops i 0 < links_most
  unfolding paths
  hop_below i h =
      let job = accepted_job j t in
      let (p, m, l) = mem-paths 0 j.stops j.hops (job_stops_agree j job) (at_mem j.hops i (at-get_or j.hops i 0 h)) in
      omega (arith, (packets_simple j job p m).below _ l, job.few_links)

  pub congestion_found : (loads : List ℕ) → ((link : ℕ) → link < links_most → get_or loads link 0 ≡ load link (paths j)) → links_most ≤ length loads
      → greatest (take (length j.network.origins) loads) ≡ congestion j
  unfolding congestion
  congestion_found loads counted long =
      greatest_below _ loads (length j.network.origins) (omega (arith, few_links)) (λ link h. counted link (omega (arith, few_links)))

  pub loads_counted : {loads : List ℕ} {i : ℕ} → Counting j.hops loads i → length j.hops ≤ i → (link : ℕ) → link < links_most
      → get_or loads link 0 ≡ load link (paths j)
  loads_counted w h link m = counted w h link m ∙ load-occurs link
