-- Every packet of an accepted job has a hop (document 02, request 3): so the stops rise, a packet ends after it starts, and where there
-- is a packet the routing time, C and D are at least 1. Without packets these are 0.
use mathlib.Core.Path.{◌≡◌, refl}
use mathlib.Core.List.{List, [], ◌∷◌, Memᴰ}
use mathlib.Core.Option.{some}
use Prim.Native.Nat.{ℕ, zero, suc, ◌≤◌, ◌<◌}
use native.Mathlib.Omega.{arith}
use lib.ListN.{length, take, get_or, get_elem?, length-take, length-drop}
use lib.Seq.{slice}
use Rattle.counting.proofs.Places.{none_not_some, some_same, at_mem, mem_at, at_below, at-get_or}
use Rattle.rules.specs.Network.{Job, paths_from, paths}
use Rattle.rules.specs.Travel.{delay_in, travel}
use Rattle.rules.specs.Counts.{end_of, routing_time, link_count, congestion, dilation}
use Rattle.theorems.specs.Jobs.{AtEach, IsJob}
use Rattle.theorems.proofs.Accepted.{job_path, job_delayed, length-paths}
use Rattle.theorems.proofs.Travels.{hops_le-travel}
use Rattle.theorems.proofs.Counts.{end_le-routing_time, travel-le-dilation, congestion_least, dilation_least}
use Rattle.theorems.proofs.Bounds.{load_lt, routing_time-le}
use Rattle.theorems.proofs.PlanLength.{load-le}
use Rattle.theorems.proofs.Demands.{packets_simple}

-- a path's hops go from one stop to the next
path_between : (first : ℕ) (stops hops : List ℕ) (k : ℕ) {a b : ℕ} → get_elem? (first ∷ stops) k ≡ some a → get_elem? stops k ≡ some b
    → get_elem? (paths_from first stops hops) k ≡ some (slice a b hops)
unfolding paths_from
path_between first [] hops k e f = absurd (none_not_some f)
path_between first (stop ∷ stops) hops zero e f = rw (some_same e, some_same f) refl
path_between first (stop ∷ stops) hops (suc k) e f = path_between stop stops hops k e f

module _ (j : Job) (job : IsJob j) where
  pub some_hop_of : {p : List ℕ} → Memᴰ p (paths j) → 1 ≤ length p
  some_hop_of m = (job_path j job m).1.some_hop

  -- every stop is greater than the one before it, the first than 0
  pub stops_rise : AtEach ◌<◌ (0 ∷ j.stops) j.stops
  unfolding paths
  stops_rise k a b e f =
      let hop = some_hop_of (at_mem (paths j) k (path_between 0 j.stops j.hops k e f)) in
      omega (arith, hop, length-drop a (take b j.hops), length-take b j.hops)

  travel_pos : {p : List ℕ} → Memᴰ p (paths j) → 1 ≤ travel (delay_in j) p
  travel_pos {p} m = omega (arith, some_hop_of m, hops_le-travel (delay_in j) p (job_delayed j job m))

  pub start-lt_end : {p : List ℕ} → Memᴰ p (paths j) → (s : ℕ) → s < end_of (delay_in j) s p
  unfolding end_of
  start-lt_end m s = omega (arith, travel_pos m)

  -- where there is a packet
  module _ (some_packet : 1 ≤ length j.sources) where
    first_path : get_elem? (paths j) 0 ≡ some (get_or (paths j) 0 [])
    first_path = at-get_or (paths j) 0 [] (omega (arith, some_packet, length-paths j, job.stops_count))

    first_mem : Memᴰ (get_or (paths j) 0 []) (paths j)
    first_mem = at_mem (paths j) 0 first_path

    pub dilation_pos : 1 ≤ dilation j
    dilation_pos = omega (arith, travel_pos first_mem, travel-le-dilation j first_mem)

    pub congestion_pos : 1 ≤ congestion j
    unfolding congestion
    congestion_pos = omega (arith, load_lt (link_count j) (paths j) 0 (get_or (paths j) 0 []) link first_path on_it ((packets_simple j job _ first_mem).below link on_it))
      where
        link : ℕ
        link = get_or (get_or (paths j) 0 []) 0 0

        on_it : Memᴰ link (get_or (paths j) 0 [])
        on_it = at_mem (get_or (paths j) 0 []) 0 (at-get_or (get_or (paths j) 0 []) 0 0 (omega (arith, some_hop_of first_mem)))

    pub routing_time_pos : (starts : List ℕ) → 1 ≤ length starts → 1 ≤ routing_time (delay_in j) starts (paths j)
    routing_time_pos starts some_start =
        omega (
          arith,
          start-lt_end first_mem (get_or starts 0 0),
          end_le-routing_time (delay_in j) starts (paths j) 0 (at-get_or starts 0 0 (omega (arith, some_start))) first_path,
        )

  -- where there is none
  module _ (no_packet : length j.sources ≡ 0) where
    no_path : length (paths j) ≡ 0
    no_path = omega (arith, no_packet, length-paths j, job.stops_count)

    pub dilation-zero : dilation j ≡ 0
    dilation-zero = omega (arith, dilation_least j 0 (λ p m. let (k, e) = mem_at m in omega (arith, at_below (paths j) k e, no_path)))

    pub congestion-zero : congestion j ≡ 0
    congestion-zero = omega (arith, congestion_least j 0 (λ link l. omega (arith, load-le link (paths j), no_path)))

    pub routing_time-zero : (starts : List ℕ) → routing_time (delay_in j) starts (paths j) ≡ 0
    routing_time-zero starts = omega (arith, routing_time-le (delay_in j) starts (paths j) 0 (λ k s p e f. omega (arith, at_below (paths j) k f, no_path)))
