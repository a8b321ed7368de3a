-- The routing time, C and D are each the least number that no end, no load and no path exceeds. The routing time's other half
-- is `routing_time-le` of Bounds.antt.
use mathlib.Core.Path.{◌≡◌}
use mathlib.Core.List.{List, [], ◌∷◌, Memᴰ}
use mathlib.Core.Option.{some}
use Prim.Native.Nat.{ℕ, zero, suc, ◌≤◌, ◌<◌}
use native.Mathlib.Omega.{arith}
use lib.ListN.{get_elem?}
use Rattle.counting.proofs.Sums.{le-max, max-le}
use Rattle.counting.proofs.Hits.{le-max_below, max_below-le}
use Rattle.counting.proofs.Places.{some_same, none_not_some}
use Rattle.rules.specs.Network.{Job, paths}
use Rattle.rules.specs.Travel.{delay_in, travel}
use Rattle.rules.specs.Counts.{end_of, routing_time, load, link_count, congestion, dilation}

-- no packet ends after the routing time
pub end_le-routing_time : (delay : ℕ → ℕ) (ss : List ℕ) (ps : List (List ℕ)) (k : ℕ) {s : ℕ} {p : List ℕ} → get_elem? ss k ≡ some s → get_elem? ps k ≡ some p → end_of delay s p ≤ routing_time delay ss ps
unfolding routing_time
end_le-routing_time delay [] ps k e f = absurd (none_not_some e)
end_le-routing_time delay (t ∷ ss) [] k e f = absurd (none_not_some f)
end_le-routing_time delay (t ∷ ss) (q ∷ ps) zero e f = rw (← some_same e, ← some_same f) (omega arith)
end_le-routing_time delay (t ∷ ss) (q ∷ ps) (suc k) e f = omega (arith, end_le-routing_time delay ss ps k e f)

module _ (j : Job) where
  -- no link is on more paths than C
  pub load-le-congestion : (link : ℕ) → link < link_count j → load link (paths j) ≤ congestion j
  unfolding congestion
  load-le-congestion = le-max_below (λ link. load link (paths j)) (link_count j)

  pub congestion_least : (m : ℕ) → ((link : ℕ) → link < link_count j → load link (paths j) ≤ m) → congestion j ≤ m
  unfolding congestion
  congestion_least = max_below-le (λ link. load link (paths j)) (link_count j)

  -- no path takes more steps than D
  pub travel-le-dilation : {p : List ℕ} → Memᴰ p (paths j) → travel (delay_in j) p ≤ dilation j
  unfolding dilation
  travel-le-dilation m = le-max (travel (delay_in j)) m

  pub dilation_least : (m : ℕ) → ((p : List ℕ) → Memᴰ p (paths j) → travel (delay_in j) p ≤ m) → dilation j ≤ m
  unfolding dilation
  dilation_least = max-le (travel (delay_in j)) (paths j)
