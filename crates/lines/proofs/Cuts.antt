-- Where the first piece of bytes ends, and what the pieces are on either side of that place.
use mathlib.Core.Path.{◌≡◌, refl, ap}
use mathlib.Core.Bool.{Bool, true, false}
use mathlib.Core.List.{List, [], ◌∷◌}
use Prim.Native.Nat.{ℕ, suc, ◌≤◌}
use native.Mathlib.Omega.{arith}
use lib.Dec.{eqb}
use lib.ListN.{length, take, drop}
use Rattle.counting.specs.Count.{pick}
use Rattle.rules.specs.Bytes.{onto, split}
use Rattle.lines.specs.Pieces.{before, pieces_after}

pub before-le : (c : ℕ) (bs : List ℕ) → before c bs ≤ length bs
unfolding before
before-le c [] = omega arith
before-le c (b ∷ bs) = go (eqb b c) (before-le c bs)
  where
    go : (t : Bool) → before c bs ≤ length bs → pick t 0 (suc (before c bs)) ≤ suc (length bs)
    go true h = omega arith
    go false h = omega arith

-- the first piece, and the pieces after it
pub split_cut : (c : ℕ) (bs : List ℕ) → split c bs ≡ take (before c bs) bs ∷ pieces_after c (drop (before c bs) bs)
unfolding before split
split_cut c [] = refl
split_cut c (b ∷ bs) = go (eqb b c) (split_cut c bs)
  where
    go : (t : Bool) → split c bs ≡ take (before c bs) bs ∷ pieces_after c (drop (before c bs) bs)
        → pick t ([] ∷ split c bs) (onto b (split c bs)) ≡ take (pick t 0 (suc (before c bs))) (b ∷ bs) ∷ pieces_after c (drop (pick t 0 (suc (before c bs))) (b ∷ bs))
    go true e = refl
    go false e = ap (onto b) e
