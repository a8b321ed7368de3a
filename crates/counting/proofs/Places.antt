-- Laws of what stands at a place of a list, if anything does.
use mathlib.Core.Path.{◌≡◌, refl, sym, ap}
use mathlib.Core.Bool.{Bool, true, false}
use mathlib.Core.List.Memᴰ
use mathlib.Core.List.Memᴰ.{head as here}
use mathlib.Core.List.Memᴰ.{tail as there}
use mathlib.Core.List.{List, [], ◌∷◌, ◌++◌, map, Memᴰ}
use mathlib.Core.Logic.{◌⊎◌, inl, inr, ⊎_map}
use mathlib.Core.Option.{Option, none, some}
use Prim.Native.Nat.{ℕ, zero, suc, ◌+◌, ◌≤◌, ◌<◌}
use native.Mathlib.Numerals.{add-one}
use native.Mathlib.Omega.{arith}
use native.Mathlib.Nat.{not-suc-le-zero, le_of_suc-le-suc}
use lib.Dec.{eqb}
use lib.ListN.{length, get_or, set, take, drop, replicate, get_elem?, take-append-drop, length-take}
use lib.Seq.{take-length, drop-cons, get_or-set_same, get_or-set_other}
use borrow.Author.Tests.{eqb-true, eqb-false}
use Rattle.counting.specs.Count.{bit}

module _ {A : Type 0} where
  pub some_same : {a b : A} → some a ≡ some b → a ≡ b
  some_same p = cc

  pub none_not_some : {a : A} → none ≡ some a → ⊥
  none_not_some p = let z : ◌≡◌ {A = ℕ} 0 1 = cc in omega arith

  pub at_below : (xs : List A) (i : ℕ) {x : A} → get_elem? xs i ≡ some x → i < length xs
  at_below [] i e = absurd (none_not_some e)
  at_below (y ∷ ys) zero e = omega arith
  at_below (y ∷ ys) (suc i) e = omega (arith, at_below ys i e)

  pub at-get_or : (xs : List A) (i : ℕ) (d : A) → i < length xs → get_elem? xs i ≡ some (get_or xs i d)
  at-get_or [] i d h = absurd (not-suc-le-zero h)
  at-get_or (y ∷ ys) zero d h = refl
  at-get_or (y ∷ ys) (suc i) d h = at-get_or ys i d (le_of_suc-le-suc h)

  pub at_none : (xs : List A) (i : ℕ) → length xs ≤ i → get_elem? xs i ≡ none
  at_none [] i h = refl
  at_none (y ∷ ys) zero h = absurd (not-suc-le-zero h)
  at_none (y ∷ ys) (suc i) h = at_none ys i (le_of_suc-le-suc h)

  pub at_mem : (xs : List A) (i : ℕ) {x : A} → get_elem? xs i ≡ some x → Memᴰ x xs
  at_mem [] i e = absurd (none_not_some e)
  at_mem (y ∷ ys) zero e = here (sym (some_same e))
  at_mem (y ∷ ys) (suc i) e = there (at_mem ys i e)

  pub mem_at : {x : A} {xs : List A} → Memᴰ x xs → (i : ℕ) × (get_elem? xs i ≡ some x)
  mem_at (here e) = (0, ap {B = Option A} some (sym e))
  mem_at (there m) = let r = mem_at m in (suc r.0, r.1)

  pub at_take : (xs : List A) (n i : ℕ) → i < n → get_elem? (take n xs) i ≡ get_elem? xs i
  at_take xs zero i h = absurd (not-suc-le-zero h)
  at_take [] (suc n) i h = refl
  at_take (x ∷ xs) (suc n) zero h = refl
  at_take (x ∷ xs) (suc n) (suc i) h = at_take xs n i (le_of_suc-le-suc h)

  pub at_take-below : (xs : List A) (n i : ℕ) {x : A} → get_elem? (take n xs) i ≡ some x → i < n
  at_take-below xs n i e = omega (arith, at_below (take n xs) i e, length-take n xs)

  pub mem-take : (n : ℕ) (xs : List A) {x : A} → Memᴰ x (take n xs) → Memᴰ x xs
  mem-take n xs m = rw take-append-drop at (Memᴰ.append_left (drop n xs) m)

  pub at_append-left : (xs ys : List A) (i : ℕ) → i < length xs → get_elem? (xs ++ ys) i ≡ get_elem? xs i
  at_append-left [] ys i h = absurd (not-suc-le-zero h)
  at_append-left (x ∷ xs) ys zero h = refl
  at_append-left (x ∷ xs) ys (suc i) h = at_append-left xs ys i (le_of_suc-le-suc h)

  pub at_append_seam : (xs : List A) (y : A) (ys : List A) → get_elem? (xs ++ y ∷ ys) (length xs) ≡ some y
  at_append_seam [] y ys = refl
  at_append_seam (x ∷ xs) y ys = at_append_seam xs y ys

-- where a list goes on at a place
pub from_place : (xs : List ℕ) (i : ℕ) → i < length xs → drop i xs ≡ get_or xs i 0 ∷ drop (i + 1) xs
from_place xs i h = rw (add-one, drop-cons xs i 0)

-- what stands in a list with one more at its end
pub at_snoc : {A : Type 0} (xs : List A) (y : A) (i : ℕ) {x : A} → get_elem? (xs ++ (y ∷ [])) i ≡ some x → (get_elem? xs i ≡ some x) ⊎ ((i ≡ length xs) × (y ≡ x))
at_snoc [] y zero e = inr (refl, some_same e)
at_snoc [] y (suc i) e = inl e
at_snoc (z ∷ xs) y zero e = inl e
at_snoc (z ∷ xs) y (suc i) e = ⊎_map (λ a. a) (λ b. (ap suc b.0, b.1)) (at_snoc xs y i e)

-- a list of no length is empty
pub nil_of_length : {A : Type 0} (xs : List A) → length xs ≡ 0 → [] ≡ xs
nil_of_length xs e = rw e at (take-length xs)

pub take-map : {A B : Type 0} (f : A → B) (n : ℕ) (xs : List A) → take n (map f xs) ≡ map f (take n xs)
take-map f zero xs = refl
take-map f (suc n) [] = refl
take-map f (suc n) (x ∷ xs) = ap (λ r. f x ∷ r) (take-map f n xs)

pub at_map : {A B : Type 0} (f : A → B) (xs : List A) (i : ℕ) {x : A} → get_elem? xs i ≡ some x → get_elem? (map f xs) i ≡ some (f x)
at_map f [] i e = absurd (none_not_some e)
at_map {B = B} f (y ∷ ys) zero e = ap {B = Option B} (λ z. some (f z)) (some_same e)
at_map f (y ∷ ys) (suc i) e = at_map f ys i e

pub at_map-split : {A B : Type 0} (f : A → B) (xs : List A) (i : ℕ) {y : B} → get_elem? (map f xs) i ≡ some y → (x : A) × (get_elem? xs i ≡ some x) × (y ≡ f x)
at_map-split f [] i e = absurd (none_not_some e)
at_map-split f (x ∷ xs) zero e = (x, refl, sym (some_same e))
at_map-split f (x ∷ xs) (suc i) e = at_map-split f xs i e

-- a list of zeros has a 0 at every place, and past it
pub zero_at : (n i : ℕ) → ◌≡◌ {A = ℕ} (get_or (replicate n 0) i 0) 0
zero_at zero i = refl
zero_at (suc n) zero = refl
zero_at (suc n) (suc i) = zero_at n i

-- one more at a place, as a count has it
pub one-more_at : (times : List ℕ) (at other : ℕ) → at < length times → get_or (set times at (get_or times at 0 + 1)) other 0 ≡ get_or times other 0 + bit (eqb at other)
one-more_at times at other h = go (eqb at other) refl
  where
    go : (t : Bool) → eqb at other ≡ t → get_or (set times at (get_or times at 0 + 1)) other 0 ≡ get_or times other 0 + bit t
    go true q = rw (← eqb-true at other q) (get_or-set_same times at _ 0 h)
    go false q = omega (arith, get_or-set_other times at other (get_or times at 0 + 1) 0 (λ e. eqb-false at other q (sym e)))
