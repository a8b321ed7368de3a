-- Demand 3's bounds, of any start that is the first free step after any packets that it is compared with: at most the meetings,
-- and ended by C times D.
use mathlib.Core.Path.{◌≡◌, refl, sym, ap, ◌∙◌}
use mathlib.Core.Bool.{Bool, true, false, ◌&&◌}
use mathlib.Core.List.{List, [], ◌∷◌, ◌++◌, append_assoc, append-nil, Memᴰ}
use mathlib.Core.Option.{some}
use Prim.Native.Nat.{ℕ, zero, suc, pred, ◌+◌, ◌*◌, ◌≤◌, ◌<◌}
use native.Mathlib.Omega.{arith}
use native.Mathlib.Nat.{le_trans, le-pred_of_lt, mul-le-mul_left}
use lib.Dec.{eqb}
use lib.ListN.{length, take, drop, get_or, get_elem?}
use lib.Seq.{split_at}
use borrow.Author.Tests.{eq-eqb, eqb-true}
use Rattle.counting.specs.Count.{bit, among, occurs, sum_of, hits, max_below}
use Rattle.counting.proofs.Tests.{any_mem}
use Rattle.counting.proofs.Sums.{sum_le, sum_const, sum_append, sum_map, sum_swap, sum_le_any}
use Rattle.counting.proofs.Hits.{sum_le-hits, sum_below-le, hits_any, hits_once, le-max_below}
use Rattle.counting.proofs.Places.{some_same, none_not_some, at_below, at-get_or}
use Rattle.rules.specs.Network.{Network, Packet}
use Rattle.rules.specs.Travel.{delay_of, travel}
use Rattle.rules.specs.Resource.{Resource, same}
use Rattle.rules.specs.Claims.{Claim, link_claims, claims_of, placed, placed_by}
use Rattle.rules.specs.Greedy.{FirstFree, crossings}
use Rattle.rules.specs.Counts.{end_of, routing_time, load, shared, meetings_with, meetings_after}
use Rattle.theorems.specs.Simple.{Simple}
use Rattle.theorems.proofs.FirstFrees.{first_free-le-crossings}
use Rattle.theorems.proofs.Travels.{some_travel}
use Rattle.theorems.proofs.Packets.{paths_of}

-- ---- over any claims: a start that is first free after qs is at most the pairs of claims of one resource

-- pairs of a claim of p and one of q
abbrev pub pairs : {A : Type 0} → (A → List Claim) → A → A → ℕ
pairs f p q = sum_of (λ c. sum_of (λ d. bit (same d.resource c.resource)) (f q)) (f p)

module _ {A : Type 0} (f : A → List Claim) (p : A) where
  crossings_are_pairs : (ts : List ℕ) (qs : List A) → crossings (placed_by f ts qs) (f p) ≤ sum_of (pairs f p) qs
  unfolding crossings placed
  crossings_are_pairs [] qs = omega arith
  crossings_are_pairs (t ∷ ts) [] = omega arith
  crossings_are_pairs (t ∷ ts) (q ∷ qs) = omega (arith, crossings_are_pairs ts qs)

  -- so it is at most the sum of what bounds the pairs with each
  pub start-le_sum : (g : A → ℕ) (ts : List ℕ) (qs : List A) (s : ℕ)
      → ((q : A) → Memᴰ q qs → pairs f p q ≤ g q) → FirstFree (placed_by f ts qs) (f p) s → s ≤ sum_of g qs
  start-le_sum g ts qs s few h =
      le_trans (first_free-le-crossings (placed_by f ts qs) (f p) s h)
      (le_trans (crossings_are_pairs ts qs) (sum_le (pairs f p) g qs few))

-- ---- links: the pairs are meetings

-- links of p on q, p's counted one by one
abbrev met : List ℕ → List ℕ → ℕ
met p q = sum_of (λ l. bit (among l q)) p

meetings_of_met : (n : ℕ) (p : List ℕ) (qs : List (List ℕ)) → Simple n p → sum_of (met p) qs ≤ meetings_with n qs p
unfolding meetings_with shared
meetings_of_met n p qs own =
    sum_le (met p) (λ q. shared n p q) qs (λ q m. sum_le-hits (λ l. among l q) p n own.below own.once)

module _ (delay : ℕ → ℕ) where
  sum_link_claims : (f : Resource → ℕ) (o : ℕ) (p : List ℕ) → sum_of (λ c. f c.resource) (link_claims delay o p) ≡ sum_of f p
  unfolding link_claims
  sum_link_claims f o [] = refl
  sum_link_claims f o (l ∷ ls) = ap (λ (n : ℕ). f l + n) (sum_link_claims f (o + delay l) ls)

  links_pairs-le : (p q : List ℕ) → ((l : ℕ) → occurs l q ≤ 1) → pairs (link_claims delay 0) p q ≤ met p q
  links_pairs-le p q once =
      omega (
        arith,
        sum_link_claims (λ r. sum_of (λ d. bit (same d.resource r)) (link_claims delay 0 q)) 0 p,
        sum_le (λ l. sum_of (λ d. bit (same d.resource l)) (link_claims delay 0 q)) (λ l. bit (among l q)) p (λ l m. one l),
      )
    where
      one : (l : ℕ) → sum_of (λ d. bit (same d.resource l)) (link_claims delay 0 q) ≤ bit (among l q)
      one l = omega (arith, sum_link_claims (λ r. bit (same r l)) 0 q, sum_le_any (λ m. eqb m l) q (once l))

  -- for paths by themselves, where links are all that is claimed
  pub links_start-le-meetings : (n : ℕ) (ts : List ℕ) (qs : List (List ℕ)) (p : List ℕ) (s : ℕ)
      → ((q : List ℕ) → Memᴰ q qs → Simple n q) → Simple n p → FirstFree (placed_by (link_claims delay 0) ts qs) (link_claims delay 0 p) s
      → s ≤ meetings_with n qs p
  links_start-le-meetings n ts qs p s simple own h =
      le_trans (start-le_sum (link_claims delay 0) p (met p) ts qs s (λ q m. links_pairs-le p q (simple q m).once) h)
      (meetings_of_met n p qs own)

-- ---- packets: their pairs, by what they claim

-- no link stands twice on a path
abbrev pub Once : List Packet → Type 0
Once qs = (q : Packet) → Memᴰ q qs → (l : ℕ) → occurs l q.path ≤ 1

module _ (net : Network) (p : Packet) where
  -- the one bound that looks into what a packet claims
  pairs-le-met : (q : Packet) → ((l : ℕ) → occurs l q.path ≤ 1) → pairs (claims_of net) p q ≤ met p.path q.path
  unfolding claims_of
  pairs-le-met q once = links_pairs-le (delay_of net) p.path q.path once

  start-le-met : (ts : List ℕ) (qs : List Packet) (s : ℕ)
      → Once qs → FirstFree (placed_by (claims_of net) ts qs) (claims_of net p) s → s ≤ sum_of (met p.path) (paths_of qs)
  start-le-met ts qs s once h =
      omega (
        arith,
        start-le_sum (claims_of net) p (λ q. met p.path q.path) ts qs s (λ q m. pairs-le-met q (once q m)) h,
        sum_map (met p.path) (λ (q : Packet). q.path) qs,
      )

  pub start-le-meetings_with : (n : ℕ) (ts : List ℕ) (qs : List Packet) (s : ℕ)
      → Once qs → Simple n p.path → FirstFree (placed_by (claims_of net) ts qs) (claims_of net p) s → s ≤ meetings_with n (paths_of qs) p.path
  start-le-meetings_with n ts qs s once own h = le_trans (start-le-met ts qs s once h) (meetings_of_met n p.path (paths_of qs) own)

-- ---- C times D

-- a link of packet k is on fewer paths before it than C
pub load_lt : (n : ℕ) (ps : List (List ℕ)) (k : ℕ) (p : List ℕ) (l : ℕ) → get_elem? ps k ≡ some p → Memᴰ l p → l < n → load l (take k ps) < max_below (λ m. load m ps) n
unfolding load
load_lt n ps k p l e m below =
    let k_below = at_below ps k e in
    let mine : among l (get_or ps k []) ≡ true = rw (some_same (sym (at-get_or ps k [] k_below) ∙ e)) (any_mem (λ x. eqb x l) m (eq-eqb l l refl)) in
    omega (
      arith,
      le-max_below (λ m. load m ps) n l below,
      ap (load l) (split_at ps k [] k_below),
      sum_append (λ q. bit (among l q)) (take k ps) (get_or ps k [] ∷ drop (suc k) ps),
      ap bit mine,
    )

end_bound : (C D s h d : ℕ) → s ≤ pred C * h → h ≤ d → d ≤ D → (0 < d → 0 < C) → s + d ≤ C * D
end_bound C D s h zero a b c z = omega (arith, mul-le-mul_left (pred C) b)
end_bound zero D s h (suc d) a b c z = omega (arith, z (omega arith))
end_bound (suc C) D s h (suc d) a b c z = omega (arith, mul-le-mul_left C b, mul-le-mul_left (suc C) c)

-- fewer than C of qs are on each link of p, and p's steps are at most D
pub first_free_end_le_product : (net : Network) (C D : ℕ) (ts : List ℕ) (qs : List Packet) (p : Packet) (s : ℕ)
    → Once qs → FirstFree (placed_by (claims_of net) ts qs) (claims_of net p) s → ((l : ℕ) → Memᴰ l p.path → load l (paths_of qs) < C)
    → length p.path ≤ travel (delay_of net) p.path → travel (delay_of net) p.path ≤ D → end_of (delay_of net) s p.path ≤ C * D
unfolding end_of load
first_free_end_le_product net C D ts qs p s once h low hops steps =
    end_bound C D s (length p.path) (travel (delay_of net) p.path)
    (omega (
      arith,
      start-le-met net p ts qs s once h,
      sum_swap (λ q l. bit (among l q)) (paths_of qs) p.path,
      sum_le (λ l. load l (paths_of qs)) (λ l. pred C) p.path (λ l m. le-pred_of_lt (low l m)),
      sum_const (pred C) p.path,
    )) hops steps (some_travel (delay_of net) p.path (λ l m. omega (arith, low l m)))

pub routing_time-le : (delay : ℕ → ℕ) (ss : List ℕ) (ps : List (List ℕ)) (most : ℕ) → ((k s : ℕ) (p : List ℕ) → get_elem? ss k ≡ some s → get_elem? ps k ≡ some p → end_of delay s p ≤ most) → routing_time delay ss ps ≤ most
unfolding routing_time
routing_time-le delay [] ps most h = omega arith
routing_time-le delay (s ∷ ss) [] most h = omega arith
routing_time-le delay (s ∷ ss) (p ∷ ps) most h = omega (arith, h 0 s p refl refl, routing_time-le delay ss ps most (λ k t q e f. h (suc k) t q e f))

-- ---- meetings in order, and their number

pub meetings_at : (n : ℕ) (before ps : List (List ℕ)) (k : ℕ) {m : ℕ} {p : List ℕ} → get_elem? (meetings_after n before ps) k ≡ some m → get_elem? ps k ≡ some p → meetings_with n (before ++ take k ps) p ≡ m
unfolding meetings_after
meetings_at n before [] k e f = absurd (none_not_some e)
meetings_at n before (q ∷ ps) zero e f = rw (append-nil, ← some_same f) (some_same e)
meetings_at n before (q ∷ ps) (suc k) e f = rw append_assoc at (meetings_at n (before ++ (q ∷ [])) ps k e f)

-- at most every hop of those listed before is a meeting
pub meetings-le_hops : (n : ℕ) (qs : List (List ℕ)) (p : List ℕ) → meetings_with n qs p ≤ sum_of (λ q. length q) qs
unfolding meetings_with shared
meetings-le_hops n qs p = sum_le _ _ qs (λ q m. le_trans (sum_below-le _ _ n (λ l h. bit_and_le (among l p) (among l q))) (links_le q))
  where
    bit_and_le : (a b : Bool) → bit (a && b) ≤ bit b
    bit_and_le true b = omega arith
    bit_and_le false b = omega arith

    links_le : (q : List ℕ) → hits (λ l. among l q) n ≤ length q
    links_le q =
        omega (
          arith,
          hits_any (λ x l. eqb x l) q n,
          sum_le (λ x. hits (λ l. eqb x l) n) (λ x. 1) q (λ x m. hits_once (λ l. eqb x l) (λ i k a b. omega (arith, eqb-true)) n),
          sum_const 1 q,
        )

pub length-meetings_after : (n : ℕ) (before ps : List (List ℕ)) → length (meetings_after n before ps) ≡ length ps
unfolding meetings_after
length-meetings_after n before [] = refl
length-meetings_after n before (p ∷ ps) = ap suc (length-meetings_after n (before ++ (p ∷ [])) ps)
