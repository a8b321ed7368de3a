-- What stands in a list of packets, or paths, with their starts.
use mathlib.Core.Path.{◌≡◌, refl, ap, ap₂}
use mathlib.Core.List.{List, [], ◌∷◌, ◌++◌, map}
use mathlib.Core.Option.{Option, some}
use Prim.Native.Nat.{ℕ, zero, suc}
use native.Mathlib.Nat.{suc_inj}
use native.Mathlib.Omega.{arith}
use lib.ListN.{length, take, get_elem?}
use Rattle.counting.proofs.Places.{some_same, none_not_some, at_map, at_map-split}
use Rattle.rules.specs.Claims.{Claim, Placed, place, placed, placed_by}

pub placed_at : (ss : List ℕ) (css : List (List Claim)) (k : ℕ) {s : ℕ} {cs : List Claim} → get_elem? ss k ≡ some s → get_elem? css k ≡ some cs → get_elem? (placed ss css) k ≡ some (place s cs)
unfolding placed
placed_at [] css k e f = absurd (none_not_some e)
placed_at (s ∷ ss) [] k e f = absurd (none_not_some f)
placed_at (s ∷ ss) (cs ∷ css) zero e f = ap₂ {C = Option Placed} (λ t ds. some (place t ds)) (some_same e) (some_same f)
placed_at (s ∷ ss) (cs ∷ css) (suc k) e f = placed_at ss css k e f

pub placed-split : (ss : List ℕ) (css : List (List Claim)) (k : ℕ) {b : Placed} → get_elem? (placed ss css) k ≡ some b → (get_elem? ss k ≡ some b.start) × (get_elem? css k ≡ some b.claimed)
unfolding placed
placed-split [] css k e = absurd (none_not_some e)
placed-split (s ∷ ss) [] k e = absurd (none_not_some e)
placed-split (s ∷ ss) (cs ∷ css) zero e = (ap {B = Option ℕ} (λ (b : Placed). some b.start) (some_same e), ap {B = Option (List Claim)} (λ (b : Placed). some b.claimed) (some_same e))
placed-split (s ∷ ss) (cs ∷ css) (suc k) e = placed-split ss css k e

pub take-placed_by : {A : Type 0} (f : A → List Claim) (k : ℕ) (ss : List ℕ) (ps : List A) → take k (placed_by f ss ps) ≡ placed_by f (take k ss) (take k ps)
unfolding placed
take-placed_by f zero ss ps = refl
take-placed_by f (suc k) [] ps = refl
take-placed_by f (suc k) (s ∷ ss) [] = refl
take-placed_by f (suc k) (s ∷ ss) (p ∷ ps) = ap {B = List Placed} (λ r. place s (f p) ∷ r) (take-placed_by f k ss ps)

pub placed_by_at : {A : Type 0} (f : A → List Claim) (ss : List ℕ) (ps : List A) (k : ℕ) {s : ℕ} {p : A} → get_elem? ss k ≡ some s → get_elem? ps k ≡ some p → get_elem? (placed_by f ss ps) k ≡ some (place s (f p))
placed_by_at f ss ps k a b = placed_at ss (map f ps) k a (at_map f ps k b)

-- what stands at a place of the list is one of them with its start
pub record Standing {A : Type 0} (f : A → List Claim) (ss : List ℕ) (ps : List A) (k : ℕ) (b : Placed) : Type 0 where
  pub packet : A
  pub is_packet : get_elem? ps k ≡ some packet
  pub is_start : get_elem? ss k ≡ some b.start
  pub is_placed : b ≡ place b.start (f packet)

pub placed_by-split : {A : Type 0} (f : A → List Claim) (ss : List ℕ) (ps : List A) (k : ℕ) {b : Placed} → get_elem? (placed_by f ss ps) k ≡ some b → Standing f ss ps k b
placed_by-split f ss ps k {b} e =
    let r = placed-split ss (map f ps) k e in
    let m = at_map-split f ps k r.1 in
    record { packet = m.0; is_packet = m.1; is_start = r.0; is_placed = ap (place b.start) m.2 }

-- one more at the end
pub placed_by-snoc : {A : Type 0} (f : A → List Claim) (ss : List ℕ) (ps : List A) (s : ℕ) (p : A) → length ss ≡ length ps
    → placed_by f (ss ++ (s ∷ [])) (ps ++ (p ∷ [])) ≡ placed_by f ss ps ++ (place s (f p) ∷ [])
unfolding placed
placed_by-snoc f [] [] s p e = refl
placed_by-snoc f [] (q ∷ ps) s p e = absurd (omega (arith, e))
placed_by-snoc f (t ∷ ss) [] s p e = absurd (omega (arith, e))
placed_by-snoc f (t ∷ ss) (q ∷ ps) s p e = ap {B = List Placed} (λ r. place t (f q) ∷ r) (placed_by-snoc f ss ps s p (suc_inj e))
