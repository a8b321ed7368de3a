-- A `for` over two lists side by side, with the number of each turn: what it is handed stands there in both lists.
use Rattle.std.proofs.Common.{◌≡◌, ℕ, ◌<◌, min, List, length, get_or, Option, Some, None, Bor, Iter, ap, zero-add, ◌∙◌, arith}
use Rattle.std.specs.declared.iter.Enumerate.{Enumerate}
use Rattle.std.specs.declared.iter.Zip.{Zip}
use Rattle.std.specs.Iterator.{Yields}
use Rattle.std.specs.Iterator.Adapters.{enumerate_source, enumerate_count, enumerate_steps, zip_first, zip_second}
use Rattle.std.specs.List.{enumerate_from, zip}
use Rattle.std.specs.Slice.Iter.{iter_rest}
use Rattle.std.proofs.iter.Yields.{fronts}
use Rattle.std.proofs.lemmas.Iterator.{YieldsList, YieldsList-from_slice, YieldsList-from_zip, zips}
use Rattle.std.proofs.lemmas.Iterator.Consumers.{YieldsList-from_enumerate, YieldsList-turn, YieldsList-end}
use Rattle.std.proofs.lemmas.List.{get_or_read}
use Rattle.std.proofs.lemmas.List.FromFn.{get_or-enumerate_from, length-enumerate_from}
use Rattle.std.proofs.lemmas.Slice.Zip.{length-zip, get_or-zip}

-- the turn's number, and what stands there
pub record AtPair (xs ys : List ℕ) (n : ℕ) (p : ℕ × (ℕ × ℕ)) : Type 0 where
  pub first : n < length xs
  pub second : n < length ys
  pub number : p.0 ≡ n
  pub one : p.1.0 ≡ get_or xs n 0
  pub other : p.1.1 ≡ get_or ys n 0

abbrev Pairs : Type 0
Pairs = Enumerate (Zip (Iter ℕ) (Iter ℕ))

abbrev Pair : Type 0
Pair = ℕ × (Bor ℕ × Bor ℕ)

abbrev numbers : Pair → ℕ × (ℕ × ℕ)
numbers p = (p.0, (p.1.0.now, p.1.1.now))

abbrev turns : Pairs → Option Pair → Pairs → Type 0
turns = enumerate_steps (zips fronts fronts)

module _ (xs ys : List ℕ) where
  at_pair : (n : ℕ) (p : ℕ × (ℕ × ℕ)) → (n < length (enumerate_from 0 (zip xs ys))) × (p ≡ get_or (enumerate_from 0 (zip xs ys)) n p) → AtPair xs ys n p
  at_pair n p h =
      let within : n < length (zip xs ys) = omega (arith, h.0, length-enumerate_from 0 (zip xs ys)) in
      let first : n < length xs = omega (arith, within, length-zip xs ys) in
      let second : n < length ys = omega (arith, within, length-zip xs ys) in
      let q = h.1 ∙ get_or-enumerate_from 0 (zip xs ys) n p within in
      let r = ap (λ p. p.1) q ∙ get_or-zip xs ys n p.1 first second in
      record {
        first = first;
        second = second;
        number = ap (λ p. p.0) q ∙ zero-add n;
        one = get_or_read xs n p.1.0 first (ap (λ p. p.0) r) 0;
        other = get_or_read ys n p.1.1 second (ap (λ p. p.1) r) 0;
      }

  module _ (s : Pairs) (one : iter_rest (zip_first (enumerate_source s)) ≡ xs) (other : iter_rest (zip_second (enumerate_source s)) ≡ ys) (count : enumerate_count s ≡ 0) where
    road : YieldsList turns numbers s (enumerate_from 0 (zip xs ys))
    road = YieldsList-from_enumerate (YieldsList-from_zip (YieldsList-from_slice xs one) (YieldsList-from_slice ys other)) count

    -- the loop over s has handed out some pairs, and t is left; then u is
    module _ (yielded : List Pair) (t u : Pairs) (y : Yields turns s yielded t) {r : Option Pair} where
      pub pair_turn : {p : Pair} → r ≡ Some p → turns t r u → AtPair xs ys (length yielded) (numbers p)
      pair_turn e step = at_pair (length yielded) _ (YieldsList-turn road yielded t y r u _ e step)

      pub pair_end : r ≡ None → turns t r u → length yielded ≡ min (length xs) (length ys)
      pair_end e step = (YieldsList-end road yielded t y r u e step).1 ∙ length-enumerate_from 0 (zip xs ys) ∙ length-zip xs ys
