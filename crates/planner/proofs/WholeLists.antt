-- A part of a list that leaves nothing out is the list.
use mathlib.Core.Path.{◌≡◌}
use mathlib.Core.List.{List}
use Prim.Native.Nat.{ℕ, ◌-◌}
use native.Mathlib.Nat.{sub-zero}
use lib.ListN.{length, take, drop}
use lib.Seq.{take-length}

pub whole_from : (xs : List ℕ) (n : ℕ) → n ≡ 0 → take (length xs - n) (drop n xs) ≡ xs
whole_from xs n none = rw (none, sub-zero) (take-length xs)
