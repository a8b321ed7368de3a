-- The greatest of some numbers, as a chain of iterators finds it.
use mathlib.Core.Path.{◌≡◌, refl}
use mathlib.Core.List.{List, [], ◌∷◌, ◌++◌, map}
use Prim.Native.Nat.{ℕ, zero, suc, ◌≤◌, ◌<◌, max}
use native.Mathlib.Omega.{arith}
use lib.ListN.{length, get_or, take}
use lib.Seq.{take-suc}
use Rattle.std.specs.Prelude.{Option, Some, None, unwrap_or, option_map}
use Rattle.std.specs.List.{fold, reduce, range_with_len}
use Rattle.std.proofs.lemmas.List.FromFn.{length-map-range_with_len, get_or-map-range_with_len}
use Rattle.counting.specs.Count.{max_of, max_below}
use Rattle.rules.specs.Counts.{routing_time, end_of}

abbrev pub greatest : List ℕ → ℕ
greatest ns = max_of (λ n. n) ns

fold_max : (a : ℕ) (ns : List ℕ) → fold max a ns ≡ max a (greatest ns)
fold_max a [] = omega arith
fold_max a (n ∷ ns) = omega (arith, fold_max (max a n) ns)

-- the answer of `max`, 0 where there is nothing
pub greatest_found : (r : Option ℕ) (ns : List ℕ) → option_map (λ n. n) r ≡ reduce max ns → unwrap_or r 0 ≡ greatest ns
greatest_found None [] e = refl
greatest_found None (n ∷ ns) e = cc
greatest_found (Some m) [] e = cc
greatest_found (Some m) (n ∷ ns) e = let f : m ≡ fold max n ns = cc in omega (arith, f, fold_max n ns)

-- ---- numbers that are a function of the elements of a list

pub greatest_of : {A : Type 0} (f : A → ℕ) (ns : List ℕ) (xs : List A) (d : A) → length ns ≡ length xs
    → ((k : ℕ) → k < length xs → get_or ns k 0 ≡ f (get_or xs k d)) → greatest ns ≡ max_of f xs
greatest_of f [] [] d e h = refl
greatest_of f [] (x ∷ xs) d e h = absurd (omega (arith, e))
greatest_of f (n ∷ ns) [] d e h = absurd (omega (arith, e))
greatest_of f (n ∷ ns) (x ∷ xs) d e h =
    omega (arith, h 0 (omega arith), greatest_of f ns xs d (omega (arith, e)) (λ k l. h (suc k) (omega (arith, l))))

pub latest_end : (delay : ℕ → ℕ) (ns starts : List ℕ) (ps : List (List ℕ)) → length ns ≡ length starts → length starts ≡ length ps
    → ((k : ℕ) → k < length starts → get_or ns k 0 ≡ end_of delay (get_or starts k 0) (get_or ps k [])) → greatest ns ≡ routing_time delay starts ps
unfolding routing_time
latest_end delay [] [] ps e s h = refl
latest_end delay (n ∷ ns) [] ps e s h = absurd (omega (arith, e))
latest_end delay [] (s ∷ ss) ps e c h = absurd (omega (arith, e))
latest_end delay (n ∷ ns) (s ∷ ss) [] e c h = absurd (omega (arith, c))
latest_end delay (n ∷ ns) (s ∷ ss) (p ∷ ps) e c h =
    omega (arith, h 0 (omega arith), latest_end delay ns ss ps (omega (arith, e)) (omega (arith, c)) (λ k l. h (suc k) (omega (arith, l))))

-- ---- the first of a list

max_of_snoc : (ns : List ℕ) (n : ℕ) → greatest (ns ++ n ∷ []) ≡ max n (greatest ns)
max_of_snoc [] n = omega arith
max_of_snoc (m ∷ ns) n = omega (arith, max_of_snoc ns n)

pub greatest_below : (f : ℕ → ℕ) (ns : List ℕ) (n : ℕ) → n ≤ length ns → ((k : ℕ) → k < n → get_or ns k 0 ≡ f k) → greatest (take n ns) ≡ max_below f n
greatest_below f ns zero l h = refl
greatest_below f ns (suc n) l h =
    rw (take-suc ns n 0 l, max_of_snoc (take n ns) (get_or ns n 0), greatest_below f ns n (omega arith) (λ k m. h k (omega arith)), h n (omega arith))

-- ---- numbers for each packet

pub each_place : (f : ℕ → ℕ) {n : ℕ} (k : ℕ) → k < n → get_or (map f (range_with_len 0 n)) k 0 ≡ f k
each_place f {n} k h = get_or-map-range_with_len f 0 n k k 0 h (omega arith)

pub places_count : (f : ℕ → ℕ) (n : ℕ) → length (map f (range_with_len 0 n)) ≡ n
places_count f n = length-map-range_with_len f 0 n
