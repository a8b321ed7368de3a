-- Packets listed before one: how many hops they have, and so how late the next one starts.
use mathlib.Core.Path.{◌≡◌, refl}
use mathlib.Core.Bool.{true}
use mathlib.Core.List.{List, [], ◌∷◌}
use mathlib.Core.Logic.Iff
use Prim.Native.Nat.{ℕ, zero, suc, ◌+◌, ◌≤◌, ◌<◌}
use native.Mathlib.Omega.{arith}
use native.Mathlib.Nat.{not-suc-le-zero, le_of_suc-le-suc}
use lib.ListN.{length, get_or, take}
use lib.Seq.{length-slice}
use Rattle.counting.specs.Count.{sum_of}
use Rattle.counting.proofs.Places.{at-get_or, at_mem, mem-take}
use Rattle.rules.specs.Sizes.{links_most}
use Rattle.rules.specs.Network.{paths_from}
use Rattle.rules.specs.Tables.{stops_agree}
use Rattle.rules.specs.Travel.{one_step}
use Rattle.rules.specs.Claims.{placed_by}
use Rattle.theorems.proofs.FirstFrees.{first_free_is}
use Rattle.theorems.proofs.Accepted.{length-paths_from, hops_from}
use Rattle.theorems.proofs.Bounds.{links_start-le-meetings, meetings-le_hops}
use Rattle.theorems.proofs.Verdicts.{leb_iff, and_iff}
use Rattle.planner.specs.PacketsInLists.{SimplePaths, path_claims, begin_from, path_at, before}
use Rattle.planner.proofs.Filling.{start_at}

-- the paths of the packets before packet k have the hops up to where its own begins
pub hops_before : (a : ℕ) (stops hops : List ℕ) (k : ℕ) → stops_agree a stops (length hops) ≡ true → k ≤ length stops
    → sum_of (λ p. length p) (take k (paths_from a stops hops)) + a ≡ begin_from a stops k
unfolding paths_from stops_agree
hops_before a stops hops zero h l = omega arith
hops_before a [] hops (suc k) h l = absurd (not-suc-le-zero l)
hops_before a (e ∷ es) hops (suc k) h l =
    let (rises, rest) = (and_iff (leb_iff a e) Iff.rfl).0 h in
    omega (arith, begins k, hops_before e es hops k rest (le_of_suc-le-suc l), hops_from e es hops rest, length-slice a e hops (omega (arith, hops_from e es hops rest)), rises)
  where
    begins : (k : ℕ) → begin_from e es k ≡ begin_from a (e ∷ es) (suc k)
    begins zero = refl
    begins (suc k) = refl

-- no start lies further than there are hops before it
pub start-le_begin : (stops hops starts : List ℕ) (k : ℕ) → SimplePaths stops hops → k < length stops → start_at stops hops starts k ≤ begin_from 0 stops k
unfolding before path_at
start-le_begin stops hops starts k h l =
    let ps = paths_from 0 stops hops in
    let p = get_or ps k [] in
    let qs = take k ps in
    let own = at_mem ps k (at-get_or ps k [] (omega (arith, length-paths_from 0 stops hops))) in
    omega (
      arith,
      links_start-le-meetings one_step links_most (take k starts) qs p _ (λ q m. h.simple q (mem-take k ps m)) (h.simple p own) (first_free_is (placed_by path_claims (take k starts) qs) (path_claims p)),
      meetings-le_hops links_most qs p,
      hops_before 0 stops hops k h.agree (omega arith),
    )
