-- The starts written so far are the first of the greedy ones, and the next is the first free step after them.
use mathlib.Core.Path.{◌≡◌, sym, ◌∙◌}
use mathlib.Core.List.{List, [], ◌++◌, map}
use Prim.Native.Nat.{ℕ, suc, ◌+◌, ◌≤◌, ◌<◌}
use native.Mathlib.Omega.{arith}
use native.Mathlib.Numerals.{add-one}
use lib.ListN.{length, get_or, take, drop, set, length-map}
use lib.Seq.{length-take-le, take-take, take-suc, take_all, drop-cons, take-append-le, set_at, append_snoc}
use Rattle.counting.proofs.Places.{at-get_or}
use Rattle.rules.specs.Network.{paths_from}
use Rattle.rules.specs.Greedy.{first_free}
use Rattle.theorems.proofs.FirstFrees.{first_free_is, first_free_unique}
use Rattle.theorems.proofs.Greedies.{greedy_each_first, length-greedy_after}
use Rattle.theorems.proofs.Placements.{placed_by_at, take-placed_by}
use Rattle.theorems.proofs.Accepted.{length-paths_from}
use Rattle.planner.specs.PacketsInLists.{path_claims, path_at, before, greedy_starts}

module _ (stops hops : List ℕ) where
  pub length-greedy_starts : length (greedy_starts stops hops) ≡ length stops
  unfolding greedy_starts
  length-greedy_starts = length-greedy_after [] (map path_claims (paths_from 0 stops hops)) ∙ length-map (paths_from 0 stops hops) path_claims ∙ length-paths_from 0 stops hops

  -- the first free step of packet k after those before it
  abbrev pub start_at : List ℕ → ℕ → ℕ
  start_at starts k = first_free (before stops hops starts k) (path_claims (path_at stops hops k))

  -- after the greedy ones it is the next of them
  start_at-greedy : (k : ℕ) → k < length stops → start_at (greedy_starts stops hops) k ≡ get_or (greedy_starts stops hops) k 0
  unfolding before path_at greedy_starts
  start_at-greedy k l =
      let gs = greedy_starts stops hops in
      let ps = paths_from 0 stops hops in
      let s = at-get_or gs k 0 (omega (arith, length-greedy_starts)) in
      let p = at-get_or ps k [] (omega (arith, length-paths_from 0 stops hops)) in
      first_free_unique _ _ _ _ (first_free_is _ _) (rw take-placed_by at (greedy_each_first [] (map path_claims ps) k _ (placed_by_at path_claims gs ps k s p)))

  module _ (lent starts : List ℕ) (k : ℕ) (l : k < length stops) (room : length stops ≤ length lent) (so_far : starts ≡ take k (greedy_starts stops hops) ++ drop k lent) where
    front_length : length (take k (greedy_starts stops hops)) ≡ k
    front_length = length-take-le k (greedy_starts stops hops) (omega (arith, length-greedy_starts))

    -- those before packet k are the same with the starts written so far
    before_same : before stops hops starts k ≡ before stops hops (greedy_starts stops hops) k
    unfolding before
    before_same =
        rw (so_far, take-append-le k (take k (greedy_starts stops hops)) (drop k lent) (omega (arith, front_length)), take-take k k (greedy_starts stops hops) (omega arith))

    next_start : (s : ℕ) → s ≡ start_at starts k → s ≡ get_or (greedy_starts stops hops) k 0
    next_start s e = e ∙ rw before_same (start_at-greedy k l)

    pub one_more : (s : ℕ) → s ≡ start_at starts k → set starts k s ≡ take (k + 1) (greedy_starts stops hops) ++ drop (k + 1) lent
    one_more s e =
        let gs = greedy_starts stops hops in
        rw (so_far, add-one, drop-cons lent k 0 (omega arith), set_at (take k gs) (get_or lent k 0) (drop (suc k) lent) s k front_length, take-suc gs k 0 (omega (arith, length-greedy_starts)), ← next_start s e)
        (sym (append_snoc (take k gs) s (drop (suc k) lent)))

pub all_written : (stops hops : List ℕ) → take (length stops) (greedy_starts stops hops) ≡ greedy_starts stops hops
all_written stops hops = take_all (length stops) (greedy_starts stops hops) (omega (arith, length-greedy_starts stops hops))
