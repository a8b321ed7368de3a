-- A link's entries in order: where that of a hop stands among them, and so when it repeats one before it.
use mathlib.Core.Path.{◌≡◌, refl, ap, ◌∙◌}
use mathlib.Core.Bool.{Bool, true, false}
use mathlib.Core.List.{List, [], ◌∷◌}
use Prim.Native.Nat.{ℕ, zero, suc, ◌+◌, ◌-◌, ◌<◌}
use native.Mathlib.Nat.{not-suc-le-zero, le_of_suc-le-suc, suc_inj}
use native.Mathlib.Omega.{arith}
use lib.Dec.{eqb}
use lib.ListN.{length, get_or, take, drop, length-take}
use borrow.Author.Tests.{eq-eqb}
use Rattle.counting.specs.Count.{bit, among, occurs}
use Rattle.std.specs.Prelude.{Option, Some, None}
use Rattle.planner.specs.Entries.{steps_on}
use Rattle.planner.specs.Again.{steps_at, again, FirstAgain, InOrder}
use Rattle.planner.specs.Cuts.{Cut, SameParts, place_of, FirstBeyond}

-- as many hops before hop i enter its link, so many entries stand before its own
pub record Stands (link i : ℕ) (links steps : List ℕ) (place : ℕ) : Type 0 where
  pub within : place < length (steps_at link links steps)
  pub own : get_or (steps_at link links steps) place 0 ≡ get_or steps i 0
  pub front : take place (steps_at link links steps) ≡ steps_at link (take i links) (take i steps)

-- one hop more at the front: on the link, or on another
module _ (link l s : ℕ) (ls ss : List ℕ) where
  on_link : eqb l link ≡ true → steps_at link (l ∷ ls) (s ∷ ss) ≡ s ∷ steps_at link ls ss
  unfolding steps_at
  on_link e = rw e

  on_other : eqb l link ≡ false → steps_at link (l ∷ ls) (s ∷ ss) ≡ steps_at link ls ss
  unfolding steps_at
  on_other e = rw e

on_none : (link : ℕ) → [] ≡ steps_at link [] []
unfolding steps_at
on_none link = refl

stands : (link i : ℕ) (links steps : List ℕ) → i < length links → length steps ≡ length links → get_or links i 0 ≡ link
    → Stands link i links steps (occurs link (take i links))
stands link i [] steps h e on = absurd (not-suc-le-zero h)
stands link i (l ∷ ls) [] h e on = absurd (omega arith)
stands link zero (l ∷ ls) (s ∷ ss) h e on =
    let same = on_link link l s ls ss (eq-eqb l link on) in
    record { within = rw same (omega arith); own = rw same; front = on_none link }
stands link (suc i) (l ∷ ls) (s ∷ ss) h e on = go (eqb l link) refl (stands link i ls ss (le_of_suc-le-suc h) (suc_inj e) on)
  where
    go : (b : Bool) → eqb l link ≡ b → Stands link i ls ss (occurs link (take i ls)) → Stands link (suc i) (l ∷ ls) (s ∷ ss) (bit b + occurs link (take i ls))
    go true q w = let next : 1 + occurs link (take i ls) ≡ suc (occurs link (take i ls)) = omega arith in rw next (record {
      within = rw (on_link link l s ls ss q) (omega (arith, w.within));
      own = rw (on_link link l s ls ss q) w.own;
      front = rw (on_link link l s ls ss q, on_link link l s (take i ls) (take i ss) q) (ap (λ r. s ∷ r) w.front);
    })
    go false q w = let same : 0 + occurs link (take i ls) ≡ occurs link (take i ls) = omega arith in rw same (record {
      within = rw (on_other link l s ls ss q) w.within;
      own = rw (on_other link l s ls ss q) w.own;
      front = rw (on_other link l s ls ss q, on_other link l s (take i ls) (take i ss) q) w.front;
    })

module _ {hops all firsts nexts steps : List ℕ} (order : InOrder hops all firsts nexts steps) where
  -- a hop enters its link again exactly if its entry repeats one before it
  module _ (i : ℕ) (more : i < length hops) where
    abbrev l : ℕ
    l = get_or hops i 0

    its_place : Stands l i hops all (occurs l (take i hops))
    its_place = stands l i hops all more order.as_many refl

    abbrev own : List ℕ
    own = steps_on firsts nexts steps l

    again_repeats : again hops all i ≡ among (get_or own (occurs l (take i hops)) 0) (take (occurs l (take i hops)) own)
    unfolding again
    again_repeats = rw (order.same l, its_place.own, its_place.front)

    place_within : occurs l (take i hops) < length own
    place_within = rw (order.same l) its_place.within

    module _ (cuts : List ℕ) (cut : Cut firsts nexts steps cuts) where
      at_cut : place_of hops firsts i ≡ get_or cuts l 0 → again hops all i ≡ true
      unfolding place_of
      at_cut e =
          let there : occurs l (take i hops) ≡ get_or cuts l 0 - get_or firsts l 0 = omega (arith, e) in
          again_repeats ∙ rw there ((cut.first l).here (omega (arith, place_within)))

      before_cut : place_of hops firsts i < get_or cuts l 0 → again hops all i ≡ false
      unfolding place_of
      before_cut h = again_repeats ∙ (cut.first l).earlier (occurs l (take i hops)) (omega arith)

  -- so the first hop at its link's cut is the first that does
  pub first_beyond_again : {cuts : List ℕ} (r : Option ℕ) → Cut firsts nexts steps cuts → FirstBeyond hops firsts cuts r → FirstAgain hops all r
  first_beyond_again {cuts} None cut beyond = λ i more. before_cut i more cuts cut (beyond i more)
  first_beyond_again {cuts} (Some r) cut beyond = record {
    within = beyond.within;
    here = at_cut r beyond.within cuts cut beyond.here;
    earlier = λ i l. before_cut i (omega (arith, beyond.within)) cuts cut (beyond.earlier i l);
  }

  -- and where every part still ends where it did none does
  module _ {cuts : List ℕ} (cut : Cut firsts nexts steps cuts) (same : SameParts nexts cuts) where
    short_of_cut : (i : ℕ) → i < length hops → place_of hops firsts i < get_or cuts (get_or hops i 0) 0
    unfolding place_of steps_on
    short_of_cut i l =
        let link = get_or hops i 0 in
        omega (arith, same.ends link, place_within i l, length-take (get_or nexts link 0 - get_or firsts link 0) (drop (get_or firsts link 0) steps))

    pub never_again : FirstAgain hops all None
    never_again i l = before_cut i l cuts cut (short_of_cut i l)
