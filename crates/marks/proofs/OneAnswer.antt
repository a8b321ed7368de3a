-- Each public contract of the marks has one outcome: all but one are equations that say the answer, or what the words are at the return,
-- and two numbers that are both the first without a mark are equal.
use mathlib.Core.Path.{◌≡◌}
use mathlib.Core.List.{List}
use Prim.Native.Nat.{ℕ, ◌≤◌}
use native.Mathlib.Nat.{le_antisymm}
use native.Mathlib.Omega.{arith, by_contra}
use Rattle.counting.proofs.Tests.{never_both}
use Rattle.marks.specs.Marks.{marked, FirstUnmarked}

never_past : (words : List ℕ) (n m : ℕ) → FirstUnmarked words n → FirstUnmarked words m → n ≤ m
never_past words n m a b = by_contra n m (λ l. never_both (marked words m) (a.least m l) (b.free (omega (arith, l, a.below))))

pub first_unmarked_once : (words : List ℕ) (n m : ℕ) → FirstUnmarked words n → FirstUnmarked words m → n ≡ m
first_unmarked_once words n m a b = le_antisymm (never_past words n m a b) (never_past words m n b a)
