-- The first free step, over any placed list and any claims: there is one, it is the computed one, there is no other, and it is
-- at most the number of crossings.
use mathlib.Core.Path.{◌≡◌, refl}
use mathlib.Core.Bool.{Bool, true, false, ◌&&◌}
use mathlib.Core.List.{List}
use mathlib.Core.Logic.{◌⊎◌, inl, inr}
use Prim.Native.Nat.{ℕ, zero, suc, ◌+◌, ◌≤◌, ◌<◌}
use native.Mathlib.Omega.{arith, by_contra}
use native.Mathlib.Nat.{le_trans, le_antisymm, eq-or-lt_of_le, le_of_suc-le-suc, not-suc-le-zero}
use lib.Dec.{eqb}
use borrow.Author.Tests.{eqb-true}
use Rattle.counting.specs.Count.{bit, any_of, hits}
use Rattle.counting.proofs.Tests.{never_both, false_of_not_true}
use Rattle.counting.proofs.Sums.{sum_le}
use Rattle.counting.proofs.Hits.{sum_below-zero, hits_all, hits_once, hits_any}
use Rattle.rules.specs.Resource.{same}
use Rattle.rules.specs.Claims.{Claim, Placed, takes, conflict, blocked}
use Rattle.rules.specs.Greedy.{FirstFree, scan, crossings, first_free}

-- one claim against one that is placed rules out one start at most, and none if the resources differ
hits_pair : (c d : Claim) (t n : ℕ) → hits (λ s. same d.resource c.resource && eqb (t + d.offset) (s + c.offset)) n ≤ bit (same d.resource c.resource)
hits_pair c d t n = go (same d.resource c.resource)
  where
    go : (b : Bool) → hits (λ s. b && eqb (t + d.offset) (s + c.offset)) n ≤ bit b
    go true = hits_once (λ s. eqb (t + d.offset) (s + c.offset)) (λ i j p q. omega (arith, eqb-true)) n
    go false = omega (arith, sum_below-zero n)

-- so the starts that are ruled out are at most the crossings
hits-blocked : (bs : List Placed) (cs : List Claim) (n : ℕ) → hits (blocked bs cs) n ≤ crossings bs cs
unfolding blocked conflict takes crossings
hits-blocked bs cs n =
    let pair : Placed → Claim → Claim → ℕ → Bool = λ b c d s. same d.resource c.resource && eqb (b.start + d.offset) (s + c.offset) in
    le_trans (hits_any (λ b s. any_of (λ c. any_of (λ d. pair b c d s) b.claimed) cs) bs n)
    (sum_le _ _ bs (λ b m.
    le_trans (hits_any (λ c s. any_of (λ d. pair b c d s) b.claimed) cs n)
    (sum_le _ _ cs (λ c k.
    le_trans (hits_any (λ d s. pair b c d s) b.claimed n)
    (sum_le _ _ b.claimed (λ d l. hits_pair c d b.start n))))))

pub first_free-le-crossings : (bs : List Placed) (cs : List Claim) (s : ℕ) → FirstFree bs cs s → s ≤ crossings bs cs
first_free-le-crossings bs cs s h = omega (arith, hits_all (blocked bs cs) s h.least, hits-blocked bs cs s)

pub first_free_unique : (bs : List Placed) (cs : List Claim) (s t : ℕ) → FirstFree bs cs s → FirstFree bs cs t → s ≡ t
first_free_unique bs cs s t h k =
    le_antisymm (by_contra s t (λ l. never_both (blocked bs cs t) (h.least t l) k.free)) (by_contra t s (λ l. never_both (blocked bs cs s) (k.least s l) h.free))

-- the test passes everywhere below r; if it passes at r too, then r is m, where the scan gave up
record Scanned (test : ℕ → Bool) (m r : ℕ) : Type 0 where
  below : (t : ℕ) → t < r → test t ≡ true
  spent : test r ≡ true → r ≡ m

below_suc : (test : ℕ → Bool) (i : ℕ) → ((t : ℕ) → t < i → test t ≡ true) → test i ≡ true → (t : ℕ) → t < suc i → test t ≡ true
below_suc test i h e t l = go (eq-or-lt_of_le (le_of_suc-le-suc l))
  where
    go : (t ≡ i) ⊎ (t < i) → test t ≡ true
    go (inl q) = rw q e
    go (inr k) = h t k

scanned : (test : ℕ → Bool) (n i m : ℕ) → i + n ≡ m → ((t : ℕ) → t < i → test t ≡ true) → Scanned test m (scan test n i)
unfolding scan
scanned test zero i m q h = record { below = h; spent = λ e. omega arith }
scanned test (suc n) i m q h = go (test i) refl (λ k. scanned test n (suc i) m (omega arith) k)
  where
    go : (b : Bool) → test i ≡ b → (((t : ℕ) → t < suc i → test t ≡ true) → Scanned test m (scan test n (suc i))) → Scanned test m (elim b [ true ↦ scan test n (suc i) | false ↦ i ])
    go true e rest = rest (below_suc test i h e)
    go false e rest = record { below = h; spent = λ e'. absurd (never_both (test i) e' e) }

pub first_free_is : (bs : List Placed) (cs : List Claim) → FirstFree bs cs (first_free bs cs)
unfolding first_free
first_free_is bs cs =
    let m = crossings bs cs in
    let r = scan (blocked bs cs) m 0 in
    let s = scanned (blocked bs cs) m 0 m (omega arith) (λ t l. absurd (not-suc-le-zero l)) in
    record {
      free = false_of_not_true (blocked bs cs r) (λ e.
          omega (arith, hits_all (blocked bs cs) (suc r) (below_suc (blocked bs cs) r s.below e), hits-blocked bs cs (suc r), s.spent e));
      least = s.below;
    }
