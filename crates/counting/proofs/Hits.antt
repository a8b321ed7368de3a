-- Laws of counting below a number: a union bound, and tests that pass once at most.
use mathlib.Core.Path.{◌≡◌, refl, ap}
use mathlib.Core.Bool.{Bool, true, false, ◌&&◌, ◌||◌, and-true, and-false}
use mathlib.Core.List.{List, [], ◌∷◌, Memᴰ}
use mathlib.Core.Logic.{◌⊎◌, inl, inr, ⊎_elim}
use Prim.Native.Nat.{ℕ, zero, suc, ◌+◌, ◌≤◌, ◌<◌}
use native.Mathlib.Omega.{arith}
use native.Mathlib.Nat.{not-suc-le-zero, eq-or-lt_of_le, le_of_suc-le-suc}
use lib.Dec.{eqb}
use borrow.Author.Tests.{eq-eqb}
use Rattle.counting.specs.Count.{bit, any_of, among, occurs, sum_of, sum_below, hits, max_below}
use Rattle.counting.proofs.Sums.{bit_or, sum_le, sum_same, sum_const, sum_le_any}

pub sum_below-le : (f g : ℕ → ℕ) (n : ℕ) → ((i : ℕ) → i < n → f i ≤ g i) → sum_below f n ≤ sum_below g n
sum_below-le f g zero h = omega arith
sum_below-le f g (suc n) h = omega (arith, h n (omega arith), sum_below-le f g n (λ i l. h i (omega arith)))

pub sum_below_mono : (f : ℕ → ℕ) (m n : ℕ) → m ≤ n → sum_below f m ≤ sum_below f n
sum_below_mono f m zero h = let e : m ≡ 0 = omega arith in rw e (omega arith)
sum_below_mono f m (suc n) h =
    ⊎_elim (λ e. rw e (omega arith)) (λ l. omega (arith, sum_below_mono f m n (omega arith))) (eq-or-lt_of_le h)

pub sum_below-add : (f g : ℕ → ℕ) (n : ℕ) → sum_below (λ i. f i + g i) n ≡ sum_below f n + sum_below g n
sum_below-add f g zero = refl
sum_below-add f g (suc n) = omega (arith, sum_below-add f g n)

pub sum_below-zero : (n : ℕ) → sum_below (λ i. 0) n ≡ 0
sum_below-zero zero = refl
sum_below-zero (suc n) = omega (arith, sum_below-zero n)

pub sum_below_swap : {A : Type 0} (f : A → ℕ → ℕ) (xs : List A) (n : ℕ) → sum_of (λ x. sum_below (f x) n) xs ≡ sum_below (λ i. sum_of (λ x. f x i) xs) n
sum_below_swap f [] n = omega (arith, sum_below-zero n)
sum_below_swap f (x ∷ xs) n = omega (arith, sum_below_swap f xs n, sum_below-add (f x) (λ i. sum_of (λ y. f y i) xs) n)

pub le-max_below : (f : ℕ → ℕ) (n i : ℕ) → i < n → f i ≤ max_below f n
le-max_below f zero i h = absurd (not-suc-le-zero h)
le-max_below f (suc n) i h = go (eq-or-lt_of_le (le_of_suc-le-suc h)) (le-max_below f n i)
  where
    go : (i ≡ n) ⊎ (i < n) → (i < n → f i ≤ max_below f n) → f i ≤ max_below f (suc n)
    go (inl e) r = omega (arith, ap f e)
    go (inr l) r = omega (arith, r l)

pub max_below-le : (f : ℕ → ℕ) (n m : ℕ) → ((i : ℕ) → i < n → f i ≤ m) → max_below f n ≤ m
max_below-le f zero m h = omega arith
max_below-le f (suc n) m h = omega (arith, h n (omega arith), max_below-le f n m (λ i l. h i (omega arith)))

pub hits_or : (f g : ℕ → Bool) (n : ℕ) → hits (λ i. f i || g i) n ≤ hits f n + hits g n
hits_or f g zero = omega arith
hits_or f g (suc n) = omega (arith, hits_or f g n, bit_or (f n) (g n))

pub hits_all : (f : ℕ → Bool) (n : ℕ) → ((i : ℕ) → i < n → f i ≡ true) → hits f n ≡ n
hits_all f zero h = refl
hits_all f (suc n) h =
    let e : f n ≡ true = h n (omega arith) in
    let r = hits_all f n (λ i l. h i (omega arith)) in
    rw e (omega arith)

pub hits_none : (f : ℕ → Bool) (n : ℕ) → ((i : ℕ) → i < n → f i ≡ true → ⊥) → hits f n ≡ 0
hits_none f zero h = refl
hits_none f (suc n) h = go (f n) (h n (omega arith)) (hits_none f n (λ i l. h i (omega arith)))
  where
    go : (b : Bool) → (b ≡ true → ⊥) → hits f n ≡ 0 → bit b + hits f n ≡ 0
    go true k r = absurd (k refl)
    go false k r = omega arith

-- a test that passes at one number at most
pub hits_once : (f : ℕ → Bool) → ((i j : ℕ) → f i ≡ true → f j ≡ true → i ≡ j) → (n : ℕ) → hits f n ≤ 1
hits_once f h zero = omega arith
hits_once f h (suc n) = go (f n) refl (hits_once f h n)
  where
    go : (b : Bool) → f n ≡ b → hits f n ≤ 1 → bit b + hits f n ≤ 1
    go true e r = omega (arith, hits_none f n (λ i l t. let q = h i n t e in omega arith))
    go false e r = omega arith

-- the union bound
pub hits_any : {A : Type 0} (g : A → ℕ → Bool) (xs : List A) (n : ℕ) → hits (λ i. any_of (λ x. g x i) xs) n ≤ sum_of (λ x. hits (g x) n) xs
hits_any g [] n = omega (arith, sum_below-zero n)
hits_any g (x ∷ xs) n = omega (arith, hits_or (g x) (λ i. any_of (λ y. g y i) xs) n, hits_any g xs n)

-- at least one hit where the test passes somewhere below n
pub hits_some : (f : ℕ → Bool) (n i : ℕ) → i < n → bit (f i) ≤ hits f n
hits_some f zero i h = absurd (not-suc-le-zero h)
hits_some f (suc n) i h = go (eq-or-lt_of_le (le_of_suc-le-suc h)) (hits_some f n i)
  where
    go : (i ≡ n) ⊎ (i < n) → (i < n → bit (f i) ≤ hits f n) → bit (f i) ≤ hits f (suc n)
    go (inl e) r = omega (arith, ap (λ (k : ℕ). bit (f k)) e)
    go (inr l) r = omega (arith, r l)

-- a list without repetitions whose elements are below n: summing a test over it is counting the numbers below n that pass
-- and stand in it
pub sum_le-hits : (g : ℕ → Bool) (xs : List ℕ) (n : ℕ) → ((x : ℕ) → Memᴰ x xs → x < n) → ((i : ℕ) → occurs i xs ≤ 1) → sum_of (λ x. bit (g x)) xs ≤ hits (λ i. among i xs && g i) n
sum_le-hits g xs n low once =
    omega (
      arith,
      sum_le (λ x. bit (g x)) (λ x. hits (λ i. eqb x i && g i) n) xs (λ x m. one x (low x m)),
      sum_below_swap (λ x i. bit (eqb x i && g i)) xs n,
      sum_below-le (λ i. sum_of (λ x. bit (eqb x i && g i)) xs) (λ i. bit (among i xs && g i)) n (λ i l. many i (g i)),
    )
  where
    one : (x : ℕ) → x < n → bit (g x) ≤ hits (λ i. eqb x i && g i) n
    one x l =
        let e : eqb x x ≡ true = eq-eqb x x refl in
        omega (arith, hits_some (λ i. eqb x i && g i) n x l, ap (λ (b : Bool). bit (b && g x)) e)

    many : (i : ℕ) (b : Bool) → sum_of (λ x. bit (eqb x i && b)) xs ≤ bit (among i xs && b)
    many i true =
        omega (
          arith,
          sum_same (λ x. bit (eqb x i && true)) (λ x. bit (eqb x i)) xs (λ x m. ap bit (and-true (eqb x i))),
          sum_le_any (λ x. eqb x i) xs (once i),
          ap bit (and-true (among i xs)),
        )
    many i false =
        omega (arith, sum_same (λ x. bit (eqb x i && false)) (λ x. 0) xs (λ x m. ap bit (and-false (eqb x i))), sum_const {A = ℕ} 0 xs)
