-- The first hop that enters its link in a step in which a hop before it does is the one that the check shows: a simple path has no link
-- twice, so the hop before it is of a packet listed before.
use mathlib.Core.Path.{◌≡◌, refl, sym, ap, ap₂, ◌∙◌}
use mathlib.Core.Bool.{false}
use mathlib.Core.List.{List, [], ◌∷◌, ◌++◌, append-nil}
use mathlib.Core.Option.{none}
use Prim.Native.Nat.{ℕ, zero, suc, ◌+◌, ◌-◌, ◌≤◌, ◌<◌}
use native.Mathlib.Nat.{not-suc-le-zero, le_of_suc-le-suc}
use native.Mathlib.Omega.{arith}
use lib.Dec.{eqb}
use lib.ListN.{length, get_or, take, drop, take-append-drop, get_or-append}
use lib.Seq.{split_at, take-append-le, take-append-add, get_or-append-add, length-take-le}
use borrow.Author.Tests.{eq-eqb}
use Rattle.counting.specs.Count.{bit, among, occurs}
use Rattle.counting.proofs.Sums.{sum_append}
use Rattle.counting.proofs.Places.{at-get_or, at_mem}
use Rattle.rules.specs.Network.{paths_from}
use Rattle.rules.specs.Travel.{one_step}
use Rattle.rules.specs.Claims.{link_claims, Placed, place}
use Rattle.rules.specs.Check.{holder, clash_with, clash_after}
use Rattle.theorems.proofs.Accepted.{length-paths_from}
use Rattle.theorems.proofs.Clashes.{found-holder}
use Rattle.std.specs.Prelude.{Some, None}
use Rattle.planner.specs.PacketsInLists.{SimplePaths, OnPath, path_claims, begin_from, path_at, packets, before}
use Rattle.planner.specs.Again.{steps_at, again, FirstAgain}
use Rattle.planner.specs.EntriesAdded.{claim_steps, all_steps}
use Rattle.planner.proofs.PathParts.{part}
use Rattle.planner.proofs.StepsInOrder.{steps_at-append, steps_at_none, all_links, all_as_many, all_steps-append, among-all_steps, path_as_many}
use Rattle.planner.proofs.EntriesKept.{hops_from_begin, path_end}
use Rattle.planner.proofs.Clashing.{drop-cons_at, packet_at, before-take, held_first, taken_hop, clash_nowhere, clash_first, clash_at, clashes_from, first_turn, first_nowhere}
use Rattle.planner.proofs.EveryPacket.{begin_end, hops_before_links}

-- ---- a hop on a path that has no link twice

-- the link of a hop does not stand before it
once_before : (path : List ℕ) (hop : ℕ) → hop < length path → ((l : ℕ) → occurs l path ≤ 1) → occurs (get_or path hop 0) (take hop path) ≡ 0
once_before path hop m once =
    let l = get_or path hop 0 in
    let rest = drop (suc hop) path in
    let whole : occurs l path ≡ occurs l (take hop path) + occurs l (l ∷ rest) = ap (occurs l) (split_at path hop 0 m) ∙ sum_append (λ n. bit (eqb n l)) (take hop path) (l ∷ rest) in
    omega (arith, once l, rw (eq-eqb l l refl) at whole)

-- what stands in the middle of three lists, and up to it
record Middle (front mid back : List ℕ) (i n : ℕ) : Type 0 where
  at : get_or (front ++ (mid ++ back)) n 0 ≡ get_or mid i 0
  up_to : take n (front ++ (mid ++ back)) ≡ front ++ take i mid

middle : (front mid back : List ℕ) (i n : ℕ) → n ≡ length front + i → i < length mid → Middle front mid back i n
middle front mid back i n e m = record {
  at = rw (e, get_or-append-add front (mid ++ back) i 0) (get_or-append mid back 0 i m);
  up_to = rw (e, take-append-add front (mid ++ back) i, take-append-le i mid back (omega arith));
}

again_in : (F P R G Q T : List ℕ) (i n : ℕ) → n ≡ length F + i → length F ≡ length G → length P ≡ length Q → i < length P → occurs (get_or P i 0) (take i P) ≡ 0
    → again (F ++ (P ++ R)) (G ++ (Q ++ T)) n ≡ among (get_or Q i 0) (steps_at (get_or P i 0) F G)
unfolding again
again_in F P R G Q T i n e same also m once =
    let links = middle F P R i n e m in
    let steps = middle G Q T i n (omega arith) (omega arith) in
    rw (links.at, links.up_to, steps.at, steps.up_to, steps_at-append (get_or P i 0) F (take i P) G (take i Q) same, steps_at_none (get_or P i 0) (take i P) (take i Q) once, append-nil)

-- the step of a hop
step_at : (s o : ℕ) (path : List ℕ) (hop : ℕ) → hop < length path → get_or (claim_steps (place s (link_claims one_step o path))) hop 0 ≡ s + (o + hop)
unfolding claim_steps link_claims
step_at s o [] hop l = absurd (not-suc-le-zero l)
step_at s o (x ∷ xs) zero l = omega arith
step_at s o (x ∷ xs) (suc hop) l = omega (arith, step_at s (o + 1) xs hop (le_of_suc-le-suc l))

-- ---- among all hops

module _ (stops hops starts : List ℕ) (simple : SimplePaths stops hops) (same : length starts ≡ length stops) where
  abbrev ps : List Placed
  ps = packets stops hops starts

  abbrev start : ℕ → ℕ
  start k = get_or starts k 0

  abbrev path : ℕ → List ℕ
  path k = path_at stops hops k

  path_once : (k : ℕ) → k < length stops → (l : ℕ) → occurs l (path k) ≤ 1
  unfolding path_at
  path_once k m =
      let ps = paths_from 0 stops hops in
      (simple.simple (get_or ps k []) (at_mem ps k (at-get_or ps k [] (omega (arith, length-paths_from 0 stops hops))))).once

  hops_around : (k : ℕ) → k < length stops → hops ≡ all_links (take k ps) ++ (path k ++ drop (get_or stops k 0) hops)
  hops_around k l =
      sym (take-append-drop (begin_from 0 stops k) hops)
      ∙ rw (hops_before_links stops hops starts simple same k (omega arith), hops_from_begin stops hops simple k l)

  steps_around : (k : ℕ) → k < length stops → all_steps ps ≡ all_steps (take k ps) ++ (claim_steps (place (start k) (path_claims (path k))) ++ all_steps (drop (suc k) ps))
  unfolding all_steps
  steps_around k l =
      ap all_steps (sym (take-append-drop k ps)) ∙ all_steps-append (take k ps) (drop k ps)
      ∙ rw (drop-cons_at ps k (packet_at stops hops starts k l (omega arith)))

  begin_links : (k : ℕ) → k < length stops → length (all_links (take k ps)) ≡ begin_from 0 stops k
  begin_links k l =
      let p = part stops hops k simple l _ _ refl refl in
      sym (ap length (hops_before_links stops hops starts simple same k (omega arith))) ∙ length-take-le (begin_from 0 stops k) hops (omega (arith, p.rises, p.within))

  -- a hop enters its link again exactly if a packet listed before its own takes the link in its step
  again-taken : (k hop n : ℕ) → k < length stops → hop < length (path k) → n ≡ begin_from 0 stops k + hop
      → again hops (all_steps ps) n ≡ taken_hop (before stops hops starts k) (start k) (path k) hop
  again-taken k hop n l m e =
      let front = take k ps in
      let steps = claim_steps (place (start k) (path_claims (path k))) in
      let at : get_or steps hop 0 ≡ start k + hop = omega (arith, step_at (start k) 0 (path k) hop m) in
      let met = again_in (all_links front) (path k) (drop (get_or stops k 0) hops) (all_steps front) steps (all_steps (drop (suc k) ps)) hop n
      (omega (arith, begin_links k l)) (all_as_many front) (path_as_many (start k) (path k)) m (once_before (path k) hop m (path_once k l)) in
      ap₂ (λ (links steps : List ℕ). again links steps n) (hops_around k l) (steps_around k l) ∙ met
      ∙ ap (λ (t : ℕ). among t (steps_at (get_or (path k) hop 0) (all_links front) (all_steps front))) at
      ∙ among-all_steps front (get_or (path k) hop 0) (start k + hop)
      ∙ ap (λ (bs : List Placed). taken_hop bs (start k) (path k) hop) (sym (before-take stops hops starts k))

  -- ---- the first that does

  -- where no hop before hop r does
  module _ (r : ℕ) (none_before : (i : ℕ) → i < r → again hops (all_steps ps) i ≡ false) where
    -- the hops before it are not taken
    free_before : (k hop : ℕ) → k < length stops → hop < length (path k) → begin_from 0 stops k + hop < r → taken_hop (before stops hops starts k) (start k) (path k) hop ≡ false
    free_before k hop l m e = sym (again-taken k hop _ l m refl) ∙ none_before _ e

    -- so a packet that stops before it is clear, and the clash is sought after it
    sought_from : (k : ℕ) → k ≤ length stops → begin_from 0 stops k ≤ r → clash_after [] ps ≡ clashes_from ps k
    sought_from zero l e = refl
    sought_from (suc k) l e =
        let p = part stops hops k simple l _ _ refl refl in
        let clear : clash_at stops hops starts same k ≡ none = clash_nowhere k (before stops hops starts k) (start k) (path k) (λ hop m. free_before k hop l m (omega (arith, path_end stops hops simple k l))) in
        sought_from k (omega arith) (omega (arith, p.rises)) ∙ first_turn stops hops starts same k l ∙ rw clear

    none_sought : r ≡ length hops → none ≡ clash_after [] ps
    none_sought e = sym (sought_from (length stops) (omega arith) (omega (arith, begin_end stops hops simple)) ∙ first_nowhere stops hops starts same (length stops) (omega arith))

  -- where none does all is clear
  pub nothing-found : FirstAgain hops (all_steps ps) None → none ≡ clash_after [] ps
  nothing-found first = none_sought (length hops) first refl

  -- and the packet that has the first shows the clash
  module _ (r : ℕ) (first : FirstAgain hops (all_steps ps) (Some r)) where
    pub clash_found : (k from step : ℕ) → OnPath stops r k → from ≡ begin_from 0 stops k → step ≡ start k + (r - from)
        → clash_with k (get_or hops r 0) step (holder 0 (before stops hops starts k) (get_or hops r 0) step) ≡ clash_after [] ps
    clash_found k from step on is_from is_step =
        let l = on.listed in
        let p = part stops hops k simple l _ _ refl refl in
        let bs = before stops hops starts k in
        let hop = r - begin_from 0 stops k in
        let there : r ≡ begin_from 0 stops k + hop = omega (arith, on.begun) in
        let m : hop < length (path k) = omega (arith, on.begun, on.ahead, path_end stops hops simple k l) in
        let is_link : get_or hops r 0 ≡ get_or (path k) hop 0 = ap (λ (xs : List ℕ). get_or xs r 0) (hops_around k l)
        ∙ (middle (all_links (take k ps)) (path k) (drop (get_or stops k 0) hops) hop r (omega (arith, begin_links k l)) m).at in
        let is_taken = sym (again-taken k hop r l m there) ∙ first.here in
        let clash = clash_first k bs (start k) (path k) hop m (λ h q. free_before r first.earlier k h l (omega (arith, m)) (omega arith)) is_taken in
        let is_hop : step ≡ start k + hop = omega (arith, is_step, is_from) in
        ap₂ (λ (link step : ℕ). clash_with k link step (holder 0 bs link step)) is_link is_hop
        ∙ sym (sought_from r first.earlier k (omega arith) on.begun ∙ first_turn stops hops starts same k l
        ∙ rw clash (held_first k (get_or (path k) hop 0) (start k + hop) (holder 0 bs (get_or (path k) hop 0) (start k + hop)) _ (found-holder 0 bs _ _ ∙ is_taken)))
