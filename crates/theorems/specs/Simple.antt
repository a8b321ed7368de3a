-- What the bounds and the planner need of a path.
use mathlib.Core.List.{List, Memᴰ}
use Rattle.std.specs.Prelude.{ℕ, ◌≤◌, ◌<◌}
use Rattle.counting.specs.Count.{occurs}

-- all links are below n, and none stands twice
pub record Simple (n : ℕ) (p : List ℕ) : Type 0 where
  pub below : (l : ℕ) → Memᴰ l p → l < n
  pub once : (l : ℕ) → occurs l p ≤ 1
