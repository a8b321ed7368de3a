-- Links' parts that are cut at their first repeat, one after the other, and the walk along the hops up to a cut. Steps each of which is later
-- than the one before it repeat none.
use mathlib.Core.Path.{◌≡◌, refl, sym, ◌∙◌}
use mathlib.Core.Bool.{Bool, true, false}
use mathlib.Core.List.{List, [], ◌∷◌}
use mathlib.Core.Logic.{⊎_elim}
use Prim.Native.Nat.{ℕ, zero, suc, ◌+◌, ◌-◌, ◌≤◌, ◌<◌}
use native.Mathlib.Decide.{dec_lt}
use native.Mathlib.Nat.{eq-or-lt_of_le}
use native.Mathlib.Numerals.{add-one}
use native.Mathlib.Omega.{arith}
use lib.Dec.{eqb}
use lib.ListN.{length, get_or, take, drop, set, length-set, length-take, length-drop}
use lib.Seq.{take-suc, set-get_or, get_or-set_same, get_or-set_other}
use borrow.Author.Tests.{eqb-true, ne_eqb}
use Rattle.counting.specs.Count.{bit, among, occurs}
use Rattle.counting.proofs.Sums.{sum_append}
use Rattle.counting.proofs.Places.{one-more_at}
use Rattle.planner.specs.Entries.{steps_on, Parts}
use Rattle.std.specs.Prelude.{Some, None}
use Rattle.std.specs.List.Sorted.{IsStrictlyIncreasing}
use Rattle.std.proofs.lemmas.List.Kept.{AllPairs-from_increasing}
use Rattle.planner.specs.Cuts.{FirstRepeat, CutAt, Cuttable, Cut, place_of, FirstBeyond}

-- ---- steps each of which is later than the one before it

-- the first so many are smaller than a step that none of them is as late as
none_as_late : (steps : List ℕ) (i step : ℕ) → ((j : ℕ) → j < i → get_or steps j 0 < step) → i ≤ length steps → among step (take i steps) ≡ false
none_as_late steps zero step h l = refl
none_as_late [] (suc i) step h l = refl
none_as_late (first ∷ steps) (suc i) step h l =
    rw (ne_eqb first step (omega (arith, h 0))) (none_as_late steps i step (λ j m. h (suc j) (omega arith)) (omega arith))

-- none repeats one before it
pub later_new : (steps : List ℕ) → IsStrictlyIncreasing steps → FirstRepeat steps None
later_new steps later i l = none_as_late steps i (get_or steps i 0) (λ j m. AllPairs-from_increasing steps later j i 0 m l) (omega arith)

-- ---- one part

module _ (steps : List ℕ) (from to : ℕ) (rises : from ≤ to) (within : to ≤ length steps) where
  abbrev part : List ℕ
  part = take (to - from) (drop from steps)

  pub part_length : length part ≡ to - from
  part_length = omega (arith, length-take (to - from) (drop from steps), length-drop from steps)

  -- where none of its entries repeats another it is cut at its end
  pub cut_nowhere : FirstRepeat part None → CutAt part (to - from)
  cut_nowhere none = let whole : CutAt part (length part) = record { within = omega arith; here = λ l. absurd (omega arith); earlier = none } in rw part_length at whole

-- ---- all parts, before that of the link is cut

abbrev CutOf : (firsts nexts steps cuts : List ℕ) → ℕ → Type 0
CutOf firsts nexts steps cuts i = (get_or firsts i 0 ≤ get_or cuts i 0) × CutAt (steps_on firsts nexts steps i) (get_or cuts i 0 - get_or firsts i 0)

-- those of the links before it are cut, and the others are as they were
pub record CutTo (firsts before steps nexts : List ℕ) (link : ℕ) : Type 0 where
  pub long : length nexts ≡ length before
  pub cut : (i : ℕ) → i < link → CutOf firsts before steps nexts i
  pub ahead : (i : ℕ) → link ≤ i → get_or nexts i 0 ≡ get_or before i 0

module _ {firsts before steps nexts : List ℕ} {link : ℕ} (w : CutTo firsts before steps nexts link) where
  module _ (more : link < length nexts) where
    abbrev from : ℕ
    from = get_or firsts link 0

    abbrev to : ℕ
    to = get_or nexts link 0

    abbrev own : List ℕ
    own = take (to - from) (drop from steps)

    cut_to_place : (r : ℕ) → (from ≤ r) × CutAt own (r - from) → CutTo firsts before steps (set nexts link r) (link + 1)
    unfolding steps_on
    cut_to_place r cut_here = record {
      long = length-set nexts link r ∙ w.long;
      cut = λ i l. ⊎_elim
          (λ q. rw (q, get_or-set_same nexts link r 0 more, ← w.ahead link (omega arith)) cut_here)
          (λ m. rw (get_or-set_other nexts link i r 0 (omega arith)) (w.cut i m))
          (eq-or-lt_of_le {n = i} {m = link} (omega arith));
      ahead = λ i l. get_or-set_other nexts link i r 0 (omega arith) ∙ w.ahead i (omega arith);
    }

    -- its part is cut at the first entry that repeats one before it
    pub cut_to_repeat : (r : ℕ) → FirstRepeat own (Some r) → CutTo firsts before steps (set nexts link (from + r)) (link + 1)
    cut_to_repeat r first =
        let there : from + r - from ≡ r = omega arith in
        let here : CutAt own r = record { within = omega (arith, first.within); here = λ l. first.here; earlier = first.earlier } in
        cut_to_place (from + r) (omega arith, rw there here)

    -- or where it ended
    pub cut_to_end : Parts firsts before (length steps) → FirstRepeat own None → CutTo firsts before steps nexts (link + 1)
    cut_to_end parts none =
        let same = w.ahead link (omega arith) in
        let rises : from ≤ to = omega (arith, parts.rises link, same) in
        rw set-get_or at (cut_to_place to (rises, cut_nowhere steps from to rises (omega (arith, parts.within link, same)) none))

  module _ {links : ℕ} {words : List ℕ} (can : Cuttable links firsts before steps words) (all : links ≤ link) where
    -- a number past the links has no part to cut
    past_cut : (i : ℕ) → link ≤ i → CutOf firsts before steps nexts i
    unfolding steps_on
    past_cut i ahead =
        let parts = can.parts in
        let from = get_or firsts i 0 in
        let to = get_or before i 0 in
        let none : length (take (to - from) (drop from steps)) ≡ 0 = omega (arith, can.others i (omega arith), length-take (to - from) (drop from steps)) in (
          omega (arith, parts.rises i, w.ahead i ahead),
          rw (w.ahead i ahead) (cut_nowhere steps from to (parts.rises i) (parts.within i) (λ j l. absurd (omega (arith, none)))),
        )

    each_cut : (i : ℕ) → CutOf firsts before steps nexts i
    each_cut i = elim (dec_lt i link) [ yes l ↦ w.cut i l | no l ↦ past_cut i (omega arith) ]

    pub cut_to_done : Cut firsts before steps nexts
    cut_to_done = record { rises = λ i. (each_cut i).0; first = λ i. (each_cut i).1 }

-- ---- the walk, before hop i: the hops so far have moved their links' places on, none of them beyond its cut

pub record WalkedTo (hops before cuts places : List ℕ) (i : ℕ) : Type 0 where
  pub near : i ≤ length hops
  pub long : length places ≡ length before
  pub moved : (link : ℕ) → get_or places link 0 ≡ get_or before link 0 + occurs link (take i hops)
  pub short : (link : ℕ) → get_or places link 0 ≤ get_or cuts link 0
  pub earlier : (j : ℕ) → j < i → place_of hops before j < get_or cuts (get_or hops j 0) 0

module _ {hops before cuts places : List ℕ} {i : ℕ} (w : WalkedTo hops before cuts places i) where
  module _ {link : ℕ} (more : i < length hops) (is_link : link ≡ get_or hops i 0) where
    its_place : place_of hops before i ≡ get_or places link 0
    unfolding place_of
    its_place = rw (← is_link) (sym (w.moved link))

    pub walked_to_cut : get_or places link 0 ≡ get_or cuts link 0 → FirstBeyond hops before cuts (Some i)
    walked_to_cut e = record { within = more; here = rw (← is_link) (its_place ∙ e); earlier = w.earlier }

    module _ (on : link < length places) (room : get_or places link 0 < get_or cuts link 0) where
      one_more : (other : ℕ) → occurs other (take (i + 1) hops) ≡ occurs other (take i hops) + bit (eqb link other)
      one_more other = rw (add-one i, take-suc hops i 0 more, sum_append, ← is_link) (omega arith)

      still_short : (other : ℕ) → get_or places other 0 + bit (eqb link other) ≤ get_or cuts other 0
      still_short other = go (eqb link other) refl
        where
          go : (b : Bool) → eqb link other ≡ b → get_or places other 0 + bit b ≤ get_or cuts other 0
          go true e = rw (← eqb-true link other e) (omega (arith, room))
          go false e = omega (arith, w.short other)

      pub walked_turn : WalkedTo hops before cuts (set places link (get_or places link 0 + 1)) (i + 1)
      walked_turn = record {
        near = omega arith;
        long = length-set places link _ ∙ w.long;
        moved = λ other. omega (arith, one-more_at places link other on, one_more other, w.moved other);
        short = λ other. omega (arith, one-more_at places link other on, still_short other);
        earlier = λ j l. ⊎_elim
            (λ q. rw q (rw (its_place, ← is_link) room))
            (λ m. w.earlier j m)
            (eq-or-lt_of_le {n = j} {m = i} (omega arith));
      }
