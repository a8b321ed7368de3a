-- Entering links: what one more entry changes, and what many entries, and those along a path, come to.
use mathlib.Core.Path.{◌≡◌, refl, sym, ap, ◌∙◌}
use mathlib.Core.Bool.{Bool, true, false}
use mathlib.Core.List.{List, [], ◌∷◌, ◌++◌, append-nil, append_assoc}
use mathlib.Core.Logic.{◌⊎◌, inl, inr, ⊎_map}
use Prim.Native.Nat.{ℕ, suc, ◌+◌, ◌-◌, ◌≤◌, ◌<◌}
use native.Mathlib.Omega.{arith}
use lib.Dec.{eqb}
use lib.ListN.{length, get_or, take, drop, set, length-set, length-drop, drop_of_length-le}
use lib.Seq.{drop-set-add, drop-set-lt, take-suc-set, take-set-le, get_or-set_same, get_or-set_other}
use borrow.Author.Tests.{eqb-true, eqb-false, eq-eqb}
use Rattle.counting.specs.Count.{pick, bit, occurs}
use Rattle.counting.proofs.Sums.{sum_append}
use Rattle.counting.proofs.Places.{from_place, one-more_at}
use Rattle.rules.specs.Travel.{one_step}
use Rattle.rules.specs.Claims.{link_claims, place}
use Rattle.planner.specs.PacketsInLists.{path_claims}
use Rattle.planner.specs.Entries.{steps_on, Rooms, RoomFor, Counted}
use Rattle.planner.specs.Again.{steps_at}
use Rattle.planner.specs.EntriesAdded.{claim_steps, EntriesAdded}
use Rattle.planner.proofs.StepsInOrder.{steps_at-append}

-- ---- one entry

drop-set_from : (from at t : ℕ) (steps : List ℕ) → from ≤ at → drop from (set steps at t) ≡ set (drop from steps) (at - from) t
drop-set_from from at t steps h = ap (λ (i : ℕ). drop from (set steps i t)) (omega arith) ∙ drop-set-add from steps (at - from) t

-- a part grows at its end
part_grows : (steps : List ℕ) (from at t : ℕ) → from ≤ at → at < length steps
    → take (at + 1 - from) (drop from (set steps at t)) ≡ take (at - from) (drop from steps) ++ (t ∷ [])
part_grows steps from at t h m =
    let one_more : at + 1 - from ≡ suc (at - from) = omega arith in
    rw (one_more, drop-set_from from at t steps h) (take-suc-set (drop from steps) (at - from) t (omega (arith, length-drop from steps)))

-- what is stored outside a part is not seen in it
part_kept : (steps : List ℕ) (from to at t : ℕ) → from ≤ to → (to ≤ at) ⊎ (at < from)
    → take (to - from) (drop from (set steps at t)) ≡ take (to - from) (drop from steps)
part_kept steps from to at t h (inl after) =
    rw (drop-set_from from at t steps (omega arith)) (take-set-le (to - from) (drop from steps) (at - from) t (omega arith))
part_kept steps from to at t h (inr before) = rw (drop-set-lt from steps at t before)

-- the lists after one more entry on link l
abbrev pub nexts_after : List ℕ → ℕ → List ℕ
nexts_after nexts l = set nexts l (get_or nexts l 0 + 1)

abbrev pub steps_after : List ℕ → List ℕ → ℕ → ℕ → List ℕ
steps_after nexts steps l t = set steps (get_or nexts l 0) t

module _ (nexts : List ℕ) (l : ℕ) (on : l < length nexts) where
  module _ (steps rest firsts : List ℕ) (t : ℕ) (room : ℕ → ℕ) (rooms : Rooms room firsts (length steps)) (free : RoomFor (l ∷ rest) room firsts nexts) where
    in_its_room : get_or nexts l 0 < get_or firsts l 0 + room l
    in_its_room = omega (arith, rw (eq-eqb l l refl) at (free.fits l))

    in_no_other : (link : ℕ) → (link ≡ l → ⊥) → (get_or nexts link 0 ≤ get_or nexts l 0) ⊎ (get_or nexts l 0 < get_or firsts link 0)
    in_no_other link other = ⊎_map (λ below. omega (arith, free.fits link, free.rises l)) (λ above. omega (arith, in_its_room)) (rooms.apart link l other)

    one-more_on : steps_on firsts (nexts_after nexts l) (steps_after nexts steps l t) l ≡ steps_on firsts nexts steps l ++ (t ∷ [])
    unfolding steps_on
    one-more_on =
        rw (get_or-set_same nexts l (get_or nexts l 0 + 1) 0 on)
        (part_grows steps (get_or firsts l 0) (get_or nexts l 0) t (free.rises l) (omega (arith, rooms.within l, in_its_room)))

    none_more_on : (link : ℕ) → (link ≡ l → ⊥) → steps_on firsts (nexts_after nexts l) (steps_after nexts steps l t) link ≡ steps_on firsts nexts steps link
    unfolding steps_on
    none_more_on link other =
        rw (get_or-set_other nexts l link (get_or nexts l 0 + 1) 0 other)
        (part_kept steps (get_or firsts link 0) (get_or nexts link 0) (get_or nexts l 0) t (free.rises link) (in_no_other link other))

-- which is an entry added: of one link, in one step
one_added : (nexts steps : List ℕ) (l t : ℕ) → l < length nexts → EntriesAdded (l ∷ []) (t ∷ []) nexts steps (nexts_after nexts l) (steps_after nexts steps l t)
unfolding steps_at
one_added nexts steps l t on room firsts rooms free link = go (eqb l link) refl
  where
    go : (b : Bool) → eqb l link ≡ b
        → steps_on firsts (nexts_after nexts l) (steps_after nexts steps l t) link ≡ steps_on firsts nexts steps link ++ pick b (t ∷ []) []
    go true e = rw (← eqb-true l link e) (one-more_on nexts l on steps [] firsts t room rooms free)
    go false e = none_more_on nexts l on steps [] firsts t room rooms free link (λ q. eqb-false l link e (sym q)) ∙ sym (append-nil _)

-- ---- the entries of many

-- what was entered is no longer to come: there is room for the rest
pub room_for-rest : {all rest firsts nexts₀ nexts : List ℕ} {room : ℕ → ℕ} → RoomFor all room firsts nexts₀ → ((link : ℕ) → get_or nexts₀ link 0 ≤ get_or nexts link 0)
    → ((link : ℕ) → get_or nexts link 0 + occurs link rest ≡ get_or nexts₀ link 0 + occurs link all) → RoomFor rest room firsts nexts
room_for-rest free grows counts = record {
  rises = λ link. omega (arith, free.rises link, grows link);
  fits = λ link. omega (arith, free.fits link, counts link);
}

-- there is room for the front of what there is room for
room_for-front : (front rest : List ℕ) {firsts nexts : List ℕ} {room : ℕ → ℕ} → RoomFor (front ++ rest) room firsts nexts → RoomFor front room firsts nexts
room_for-front front rest free = record {
  rises = free.rises;
  fits = λ link. omega (arith, free.fits link, sum_append (λ l. bit (eqb l link)) front rest);
}

-- the entries so far, and those that are left: the links and their steps, side by side
pub record EnteredSoFar (links all nexts₀ steps₀ rest later nexts steps : List ℕ) : Type 0 where
  pub nexts_length : length nexts ≡ length nexts₀
  pub steps_length : length steps ≡ length steps₀
  pub grows : (link : ℕ) → get_or nexts₀ link 0 ≤ get_or nexts link 0
  pub counts : (link : ℕ) → get_or nexts link 0 + occurs link rest ≡ get_or nexts₀ link 0 + occurs link links
  pub entries : (room : ℕ → ℕ) (firsts : List ℕ) → Rooms room firsts (length steps₀) → RoomFor links room firsts nexts₀ → (link : ℕ)
      → steps_on firsts nexts steps link ++ steps_at link rest later ≡ steps_on firsts nexts₀ steps₀ link ++ steps_at link links all

module _ {links all nexts₀ steps₀ nexts steps : List ℕ} where
  -- the front of what is left is entered
  pub entered_turn : (front now_steps rest later : List ℕ) {nexts' steps' : List ℕ} → EnteredSoFar links all nexts₀ steps₀ (front ++ rest) (now_steps ++ later) nexts steps
      → length front ≡ length now_steps → length nexts' ≡ length nexts → length steps' ≡ length steps
      → Counted front nexts nexts' → EntriesAdded front now_steps nexts steps nexts' steps'
      → EnteredSoFar links all nexts₀ steps₀ rest later nexts' steps'
  entered_turn front now_steps rest later so_far e n s more added = record {
    nexts_length = n ∙ so_far.nexts_length;
    steps_length = s ∙ so_far.steps_length;
    grows = λ link. omega (arith, more link, so_far.grows link);
    counts = λ link. omega (arith, more link, so_far.counts link, sum_append (λ l. bit (eqb l link)) front rest);
    entries = λ room firsts rooms free link.
        let left : RoomFor (front ++ rest) room firsts nexts = room_for-rest free so_far.grows so_far.counts in
        rw (added room firsts (rw so_far.steps_length rooms) (room_for-front front rest left) link) (
        append_assoc (steps_on firsts nexts steps link) (steps_at link front now_steps) (steps_at link rest later)
        ∙ rw (← steps_at-append link front rest now_steps later e) (so_far.entries room firsts rooms free link)
        );
  }

  module _ {later : List ℕ} (so_far : EnteredSoFar links all nexts₀ steps₀ [] later nexts steps) where
    pub entered_done : EntriesAdded links all nexts₀ steps₀ nexts steps
    unfolding steps_at
    entered_done room firsts rooms free link = sym (append-nil (steps_on firsts nexts steps link)) ∙ so_far.entries room firsts rooms free link

    pub nexts_done : Counted links nexts₀ nexts
    nexts_done link = omega (arith, so_far.counts link)

-- ---- along a path

-- before a hop what is left is the path from it on
pub record EnteredToHop (path nexts₀ steps₀ nexts steps : List ℕ) (start hop offset : ℕ) : Type 0 where
  pub so_far : EnteredSoFar path (claim_steps (place start (path_claims path))) nexts₀ steps₀ (drop hop path) (claim_steps (place start (link_claims one_step offset (drop hop path)))) nexts steps

module _ {path nexts₀ steps₀ nexts steps : List ℕ} {start hop offset : ℕ} (w : EnteredToHop path nexts₀ steps₀ nexts steps start hop offset) where
  module _ (more : hop < length path) where
    abbrev l : ℕ
    l = get_or path hop 0

    pub path_turn : l < length nexts
        → EnteredToHop path nexts₀ steps₀ (nexts_after nexts l) (steps_after nexts steps l (start + offset)) start (hop + 1) (offset + one_step l)
    unfolding claim_steps link_claims
    path_turn on = record {
      so_far = entered_turn (l ∷ []) ((start + offset) ∷ []) (drop (hop + 1) path) _ (rw (from_place path hop more) at w.so_far) refl (length-set nexts l _) (length-set steps _ _)
          (λ link. omega (arith, one-more_at nexts l link on)) (one_added nexts steps l (start + offset) on);
    }

  module _ (all : length path ≤ hop) where
    none_left : EnteredSoFar path (claim_steps (place start (path_claims path))) nexts₀ steps₀ [] (claim_steps (place start (link_claims one_step offset []))) nexts steps
    none_left = rw (drop_of_length-le path {i = hop} all) at w.so_far

    pub path_added : EntriesAdded path (claim_steps (place start (path_claims path))) nexts₀ steps₀ nexts steps
    path_added = entered_done none_left
