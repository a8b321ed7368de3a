-- Laws of sums and greatest values over a list.
use mathlib.Core.Path.{◌≡◌, refl, sym, ap, ◌∙◌}
use mathlib.Core.Bool.{Bool, true, false, ◌||◌}
use mathlib.Core.List.Memᴰ.{head as here}
use mathlib.Core.List.Memᴰ.{tail as there}
use mathlib.Core.List.{List, [], ◌∷◌, ◌++◌, map, Memᴰ}
use Prim.Native.Nat.{ℕ, ◌+◌, ◌*◌, ◌≤◌}
use native.Mathlib.Nat.{mul-suc}
use native.Mathlib.Omega.{arith}
use lib.ListN.{length, take, drop, take-append-drop}
use Rattle.counting.specs.Count.{bit, any_of, sum_of, max_of}

pub bit_or : (a b : Bool) → bit (a || b) ≤ bit a + bit b
bit_or true b = omega arith
bit_or false b = omega arith

pub bit-le-one : (b : Bool) → bit b ≤ 1
bit-le-one true = omega arith
bit-le-one false = omega arith

module _ {A : Type 0} where
  pub sum_le : (f g : A → ℕ) (xs : List A) → ((x : A) → Memᴰ x xs → f x ≤ g x) → sum_of f xs ≤ sum_of g xs
  sum_le f g [] h = omega arith
  sum_le f g (x ∷ xs) h = omega (arith, h x (here refl), sum_le f g xs (λ y m. h y (there m)))

  pub sum_same : (f g : A → ℕ) (xs : List A) → ((x : A) → Memᴰ x xs → f x ≡ g x) → sum_of f xs ≡ sum_of g xs
  sum_same f g [] h = refl
  sum_same f g (x ∷ xs) h = omega (arith, h x (here refl), sum_same f g xs (λ y m. h y (there m)))

  pub sum_const : (k : ℕ) (xs : List A) → sum_of (λ x. k) xs ≡ k * length xs
  sum_const k [] = omega arith
  sum_const k (x ∷ xs) = omega (arith, sum_const k xs, mul-suc k (length xs))

  pub sum_append : (f : A → ℕ) (xs ys : List A) → sum_of f (xs ++ ys) ≡ sum_of f xs + sum_of f ys
  sum_append f [] ys = omega arith
  sum_append f (x ∷ xs) ys = omega (arith, sum_append f xs ys)

  -- a front and a rest
  sum_parts : (f : A → ℕ) (n : ℕ) (xs : List A) → sum_of f (take n xs) + sum_of f (drop n xs) ≡ sum_of f xs
  sum_parts f n xs = sym (sum_append f (take n xs) (drop n xs)) ∙ ap (sum_of f) (take-append-drop n xs)

  pub sum_take-le : (f : A → ℕ) (n : ℕ) (xs : List A) → sum_of f (take n xs) ≤ sum_of f xs
  sum_take-le f n xs = omega (arith, sum_parts f n xs)

  pub sum_drop-le : (f : A → ℕ) (n : ℕ) (xs : List A) → sum_of f (drop n xs) ≤ sum_of f xs
  sum_drop-le f n xs = omega (arith, sum_parts f n xs)

  pub sum_add : (f g : A → ℕ) (xs : List A) → sum_of (λ x. f x + g x) xs ≡ sum_of f xs + sum_of g xs
  sum_add f g [] = refl
  sum_add f g (x ∷ xs) = omega (arith, sum_add f g xs)

  -- where at most one test passes, their number is 1 exactly if one does
  pub sum_le_any : (f : A → Bool) (xs : List A) → sum_of (λ x. bit (f x)) xs ≤ 1 → sum_of (λ x. bit (f x)) xs ≤ bit (any_of f xs)
  sum_le_any f [] h = omega arith
  sum_le_any f (x ∷ xs) h = go (f x) h (sum_le_any f xs)
    where
      go : (b : Bool) → bit b + sum_of (λ x. bit (f x)) xs ≤ 1 → (sum_of (λ x. bit (f x)) xs ≤ 1 → sum_of (λ x. bit (f x)) xs ≤ bit (any_of f xs)) → bit b + sum_of (λ x. bit (f x)) xs ≤ bit (b || any_of f xs)
      go true h r = h
      go false h r = omega (arith, r (omega arith))

  pub le-max : (f : A → ℕ) {x : A} {xs : List A} → Memᴰ x xs → f x ≤ max_of f xs
  le-max f (here e) = omega (arith, ap f e)
  le-max f (there m) = omega (arith, le-max f m)

  pub max-le : (f : A → ℕ) (xs : List A) (n : ℕ) → ((x : A) → Memᴰ x xs → f x ≤ n) → max_of f xs ≤ n
  max-le f [] n h = omega arith
  max-le f (x ∷ xs) n h = omega (arith, h x (here refl), max-le f xs n (λ y m. h y (there m)))

module _ {A B : Type 0} where
  pub sum_map : (f : B → ℕ) (g : A → B) (xs : List A) → sum_of f (map g xs) ≡ sum_of (λ x. f (g x)) xs
  sum_map f g [] = refl
  sum_map f g (x ∷ xs) = omega (arith, sum_map f g xs)

  pub sum_swap : (f : A → B → ℕ) (xs : List A) (ys : List B) → sum_of (λ x. sum_of (f x) ys) xs ≡ sum_of (λ y. sum_of (λ x. f x y) xs) ys
  sum_swap f [] ys = omega (arith, sum_const {A = B} 0 ys)
  sum_swap f (x ∷ xs) ys = omega (arith, sum_swap f xs ys, sum_add (f x) (λ y. sum_of (λ z. f z y) xs) ys)
