-- A packet's path is the part of the hops from where the one before stops to its own stop.
use mathlib.Core.Path.{◌≡◌, refl, sym, ap}
use mathlib.Core.Bool.{true}
use mathlib.Core.List.{List, [], ◌∷◌}
use Prim.Native.Nat.{ℕ, zero, suc, ◌-◌, ◌≤◌, ◌<◌}
use native.Mathlib.Omega.{arith}
use native.Mathlib.Nat.{not-suc-le-zero, le_of_suc-le-suc}
use lib.Dec.{leb}
use lib.ListN.{length, get_or, take, drop, length-take}
use lib.Seq.{take-nil}
use borrow.Author.Tests.{leb-true, eqb-true}
use Rattle.std.specs.List.Sorted.{IsPartitionedBy}
use Rattle.std.proofs.lemmas.List.Sorted.{IsPartitionedBy-leb, IsNonDecreasingBy-from_default}
use Rattle.counting.proofs.Tests.{and_left, and_right}
use Rattle.rules.specs.Sizes.{hops_most}
use Rattle.rules.specs.Network.{paths_from}
use Rattle.rules.specs.Tables.{stops_agree}
use Rattle.planner.specs.PacketsInLists.{SimplePaths, begin_from, path_at}

-- the part of a list, cut in either order
take-drop : (a e : ℕ) (xs : List ℕ) → drop a (take e xs) ≡ take (e - a) (drop a xs)
take-drop zero e xs = let z : e - 0 ≡ e = omega arith in rw z
take-drop (suc a) zero xs = let z : 0 - suc a ≡ 0 = omega arith in rw z
take-drop (suc a) (suc e) [] = sym (take-nil (suc e - suc a))
take-drop (suc a) (suc e) (x ∷ xs) = let z : suc e - suc a ≡ e - a = omega arith in rw z (take-drop a e xs)

-- from here a path begins, and the stops go on
record Rest (a : ℕ) (e : ℕ) (es : List ℕ) (n : ℕ) : Type 0 where
  rises : a ≤ e
  agrees : stops_agree e es n ≡ true

rest : (a e : ℕ) (es : List ℕ) (n : ℕ) → stops_agree a (e ∷ es) n ≡ true → Rest a e es n
unfolding stops_agree
rest a e es n h = record { rises = leb-true a e (and_left (leb a e) _ h); agrees = and_right (leb a e) _ h }

stops_within : (a : ℕ) (es : List ℕ) (n : ℕ) → stops_agree a es n ≡ true → a ≤ n
unfolding stops_agree
stops_within a [] n h = omega (arith, eqb-true a n h)
stops_within a (e ∷ es) n h = let r = rest a e es n h in omega (arith, r.rises, stops_within e es n r.agrees)

stops_after : (a : ℕ) (es : List ℕ) (n k : ℕ) → stops_agree a es n ≡ true → k < length es → a ≤ get_or es k 0
stops_after a [] n k h l = absurd (not-suc-le-zero l)
stops_after a (e ∷ es) n zero h l = (rest a e es n h).rises
stops_after a (e ∷ es) n (suc k) h l = let r = rest a e es n h in omega (arith, r.rises, stops_after e es n k r.agrees (le_of_suc-le-suc l))

later_stops : (a : ℕ) (es : List ℕ) (n j k : ℕ) → stops_agree a es n ≡ true → j ≤ k → k < length es → get_or es j 0 ≤ get_or es k 0
later_stops a [] n j k h m l = absurd (not-suc-le-zero l)
later_stops a (e ∷ es) n zero zero h m l = omega arith
later_stops a (e ∷ es) n zero (suc k) h m l = stops_after e es n k (rest a e es n h).agrees (le_of_suc-le-suc l)
later_stops a (e ∷ es) n (suc j) zero h m l = absurd (not-suc-le-zero m)
later_stops a (e ∷ es) n (suc j) (suc k) h m l = later_stops e es n j k (rest a e es n h).agrees (le_of_suc-le-suc m) (le_of_suc-le-suc l)

-- no path that stops at a hop or before comes after one that stops behind it
pub stops_part : {stops hops : List ℕ} (hop : ℕ) → SimplePaths stops hops → IsPartitionedBy (λ stop. leb stop hop) stops
stops_part {stops} {hops} hop h =
    IsPartitionedBy-leb (λ stop. stop) stops hop (IsNonDecreasingBy-from_default (λ stop. stop) stops 0 (λ j k m l. later_stops 0 stops (length hops) j k h.agree m l))

-- packet k's path as a part of the hops
pub record Part (hops path : List ℕ) (from to : ℕ) : Type 0 where
  pub rises : from ≤ to
  pub within : to ≤ length hops
  pub links : path ≡ take (to - from) (drop from hops)

part_from : (a : ℕ) (stops hops : List ℕ) (k : ℕ) → stops_agree a stops (length hops) ≡ true → k < length stops → Part hops (get_or (paths_from a stops hops) k []) (begin_from a stops k) (get_or stops k 0)
unfolding paths_from
part_from a [] hops k h l = absurd (not-suc-le-zero l)
part_from a (e ∷ es) hops zero h l =
    let r = rest a e es (length hops) h in
    record { rises = r.rises; within = stops_within e es (length hops) r.agrees; links = take-drop a e hops }
part_from a (e ∷ es) hops (suc zero) h l = let r = rest a e es (length hops) h in part_from e es hops 0 r.agrees (le_of_suc-le-suc l)
part_from a (e ∷ es) hops (suc (suc k)) h l = let r = rest a e es (length hops) h in part_from e es hops (suc k) r.agrees (le_of_suc-le-suc l)

pub part : (stops hops : List ℕ) (k : ℕ) → SimplePaths stops hops → k < length stops → (from to : ℕ) → from ≡ begin_from 0 stops k → to ≡ get_or stops k 0 → Part hops (path_at stops hops k) from to
unfolding path_at
part stops hops k h l from to e f = rw (e, f) (part_from 0 stops hops k h.agree l)

pub path-le_hops : (stops hops : List ℕ) (k : ℕ) → SimplePaths stops hops → k < length stops → length (path_at stops hops k) ≤ hops_most
path-le_hops stops hops k h l =
    let p = part stops hops k h l _ _ refl refl in
    omega (arith, ap length p.links, length-take (get_or stops k 0 - begin_from 0 stops k) (drop (begin_from 0 stops k) hops), p.within, h.few)
