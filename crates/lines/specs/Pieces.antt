-- A piece of bytes ends before the first byte that parts it from the next, or where the bytes end.
use Rattle.std.specs.Prelude.{List, [], ◌∷◌, ℕ, suc, eqb}
use Rattle.counting.specs.Count.{pick}
use Rattle.rules.specs.Bytes.{split}

-- how many bytes stand before the first c
unfoldable pub before : ℕ → List ℕ → ℕ
before c [] = 0
before c (b ∷ bs) = pick (eqb b c) 0 (suc (before c bs))

-- the pieces after one that ends where these bytes begin: none at the end
abbrev pub pieces_after : ℕ → List ℕ → List (List ℕ)
pieces_after c [] = []
pieces_after c (b ∷ bs) = split c bs
