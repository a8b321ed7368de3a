-- The owner's third demand, of the greedy starts of every accepted job: as lists and as text.
use mathlib.Core.Path.{◌≡◌, sym, ap, ◌∙◌}
use mathlib.Core.List.{List, [], Memᴰ}
use mathlib.Core.Option.{some}
use Prim.Native.Nat.{ℕ, ◌*◌, ◌≤◌}
use native.Mathlib.Omega.{arith}
use lib.ListN.{length, take, get_or, get_elem?}
use Rattle.counting.proofs.Sums.{sum_take-le}
use Rattle.counting.proofs.Places.{take-map, at_map, at_map-split, at_mem, mem_at, mem-take, at_below, at-get_or}
use Rattle.rules.specs.Network.{Packet, Job, paths, packets}
use Rattle.rules.specs.Travel.{delay_in}
use Rattle.rules.specs.Outcome.{is, fine}
use Rattle.rules.specs.Tables.{tables}
use Rattle.rules.specs.Claims.{claims_of, placed_by}
use Rattle.rules.specs.Greedy.{FirstFree, greedy}
use Rattle.rules.specs.Counts.{end_of, link_count, congestion, dilation, meetings_with, meetings}
use Rattle.rules.specs.JobText.{reading}
use Rattle.rules.specs.Plain.{Takes, Starts}
use Rattle.theorems.specs.Demands.{Bounded}
use Rattle.theorems.specs.Jobs.{IsJob}
use Rattle.theorems.specs.Simple.{Simple}
use Rattle.theorems.proofs.Placements.{placed_by_at, take-placed_by}
use Rattle.theorems.proofs.Packets.{paths_of}
use Rattle.theorems.proofs.Starts.{length-greedy, greedy_first, only_greedy_starts}
use Rattle.theorems.proofs.Paths.{path_links_exist, path_once}
use Rattle.theorems.proofs.Accepted.{tables-fine-iff, hops_in_all, job_path, job_delayed, job_packet_paths, length-paths, length-packets}
use Rattle.theorems.proofs.TextJobs.{reading_job}
use Rattle.theorems.proofs.Counts.{travel-le-dilation}
use Rattle.theorems.proofs.Travels.{hops_le-travel}
use Rattle.theorems.proofs.Bounds.{Once, load_lt, start-le-meetings_with, first_free_end_le_product, routing_time-le, meetings_at, meetings-le_hops, length-meetings_after}

module _ (j : Job) (job : IsJob j) where
  -- every packet of the job is on a path
  pub packets_simple : (p : List ℕ) → Memᴰ p (paths j) → Simple (link_count j) p
  packets_simple p m =
      let path = (job_path j job m).1.on_path in
      record { below = λ l i. path_links_exist path i; once = path_once path }

  packets_once : (k : ℕ) → Once (take k (packets j))
  packets_once k q m = (packets_simple q.path (rw (← job_packet_paths j job) (let (i, e) = mem_at (mem-take k (packets j) m) in at_mem _ i (at_map (λ p. p.path) (packets j) i e)))).once

  -- packet k, whose path is p
  packet_of_lem : (k : ℕ) (p : List ℕ) → get_elem? (paths j) k ≡ some p → (q : Packet) × (get_elem? (packets j) k ≡ some q) × (p ≡ q.path)
  packet_of_lem k p f = at_map-split (λ q. q.path) (packets j) k (rw (job_packet_paths j job) f)

  -- each start is the first free step after the packets before
  start_first : (k s : ℕ) (p : Packet) → get_elem? (greedy j) k ≡ some s → get_elem? (packets j) k ≡ some p → FirstFree (placed_by (claims_of j.network) (take k (greedy j)) (take k (packets j))) (claims_of j.network p) s
  start_first k s p e f = rw take-placed_by at (greedy_first j k _ (placed_by_at (claims_of j.network) (greedy j) (packets j) k e f))

  paths-before : (k : ℕ) → paths_of (take k (packets j)) ≡ take k (paths j)
  paths-before k = sym (take-map (λ p. p.path) k (packets j)) ∙ ap (take k) (job_packet_paths j job)

  start-le-meetings-before : (k s : ℕ) (p : List ℕ) → get_elem? (greedy j) k ≡ some s → get_elem? (paths j) k ≡ some p → s ≤ meetings_with (link_count j) (take k (paths j)) p
  start-le-meetings-before k s p e f =
      let (q, is_q, same) = packet_of_lem k p f in
      rw (same, ← paths-before k)
      (start-le-meetings_with j.network q (link_count j) (take k (greedy j)) (take k (packets j)) s (packets_once k)
      (rw same at (packets_simple p (at_mem (paths j) k f))) (start_first k s q e is_q))

  -- a start for each source
  pub starts_count : length (greedy j) ≡ length j.sources
  starts_count = omega (arith, length-greedy j, length-packets j job, length-paths j, job.stops_count)

  path_of_lem : (k s : ℕ) → get_elem? (greedy j) k ≡ some s → get_elem? (paths j) k ≡ some (get_or (paths j) k [])
  path_of_lem k s e = at-get_or (paths j) k [] (omega (arith, at_below (greedy j) k e, starts_count, length-paths j, job.stops_count))

  pub job_bounded : Bounded j (greedy j)
  unfolding meetings congestion dilation
  job_bounded = record {
    meetings_count = length-meetings_after (link_count j) [] (paths j);
    start_le_meetings = λ k s m e f. rw (meetings_at (link_count j) [] (paths j) k f (path_of_lem k s e)) at (start-le-meetings-before k s _ e (path_of_lem k s e));
    start_le_most = λ k s e.
        omega (
          arith,
          start-le-meetings-before k s _ e (path_of_lem k s e),
          meetings-le_hops (link_count j) (take k (paths j)) (get_or (paths j) k []),
          sum_take-le (λ q. length q) k (paths j),
          hops_in_all j job,
          job.few_hops,
        );
    end_le_product = ends;
    routing_time_le_product = routing_time-le (delay_in j) (greedy j) (paths j) (congestion j * dilation j) ends;
  }
    where
      ends : (k s : ℕ) (p : List ℕ) → get_elem? (greedy j) k ≡ some s → get_elem? (paths j) k ≡ some p → end_of (delay_in j) s p ≤ congestion j * dilation j
      ends k s p e f =
          let (q, is_q, same) = packet_of_lem k p f in
          let m = at_mem (paths j) k f in
          rw same (first_free_end_le_product j.network (congestion j) (dilation j) (take k (greedy j)) (take k (packets j)) q s (packets_once k) (start_first k s q e is_q)
          (λ l i. rw (paths-before k) (load_lt (link_count j) (paths j) k p l f (rw same i) ((packets_simple p m).below l (rw same i))))
          (hops_le-travel (delay_in j) q.path (rw same at (job_delayed j job m))) (rw same at (travel-le-dilation j m)))

-- so of the starts of demand 2, whatever computes them
pub starts_bounded : (j : Job) (ss : List ℕ) → IsJob j → Starts (Takes j.network) (packets j) ss → Bounded j ss
starts_bounded j ss job first = rw (only_greedy_starts j ss first) (job_bounded j job)

pub tables_bounded : (j : Job) → tables j ≡ fine → Bounded j (greedy j)
tables_bounded j e = job_bounded j ((tables-fine-iff j).0 e)

pub text_bounded : (text : List ℕ) (j : Job) → reading text ≡ is j → Bounded j (greedy j)
text_bounded text j e = job_bounded j (reading_job text j e)
