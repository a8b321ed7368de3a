-- Tests, sums and greatest values over a list or over the numbers below a number.
use Rattle.std.specs.Prelude.{Bool, true, false, ◌||◌, List, [], ◌∷◌, ℕ, zero, suc, ◌+◌, max, eqb}

-- the first of two where the test passes, else the second
abbrev pub pick : {A : Type 0} → Bool → A → A → A
pick true a b = a
pick false a b = b

-- 1 for a test that passes, else 0
abbrev pub bit : Bool → ℕ
bit true = 1
bit false = 0

module _ {A : Type 0} where
  -- whether some element passes the test
  abbrev pub any_of : (A → Bool) → List A → Bool
  any_of f [] = false
  any_of f (x ∷ xs) = f x || any_of f xs

  abbrev pub sum_of : (A → ℕ) → List A → ℕ
  sum_of f [] = 0
  sum_of f (x ∷ xs) = f x + sum_of f xs

  -- the greatest value, 0 where there is none
  abbrev pub max_of : (A → ℕ) → List A → ℕ
  max_of f [] = 0
  max_of f (x ∷ xs) = max (f x) (max_of f xs)

-- the number stands in the list
abbrev pub among : ℕ → List ℕ → Bool
among n ns = any_of (λ m. eqb m n) ns

-- how often the number stands in the list
abbrev pub occurs : ℕ → List ℕ → ℕ
occurs n ns = sum_of (λ m. bit (eqb m n)) ns

abbrev pub sum_below : (ℕ → ℕ) → ℕ → ℕ
sum_below f zero = 0
sum_below f (suc n) = f n + sum_below f n

-- how many numbers below n pass the test
abbrev pub hits : (ℕ → Bool) → ℕ → ℕ
hits f n = sum_below (λ i. bit (f i)) n

-- the greatest value at a number below n, 0 where there is none
abbrev pub max_below : (ℕ → ℕ) → ℕ → ℕ
max_below f zero = 0
max_below f (suc n) = max (f n) (max_below f n)
