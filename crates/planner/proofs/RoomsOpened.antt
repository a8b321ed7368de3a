-- The loads are counted, and each link is opened a room as large as its load, which begins after the loads of the links before it.
use mathlib.Core.Path.{◌≡◌, refl, sym, ◌∙◌}
use mathlib.Core.List.{List, [], ◌∷◌}
use mathlib.Core.Logic.{◌⊎◌, inl, inr, ⊎_elim, ⊎_swap}
use Prim.Native.Nat.{ℕ, zero, suc, ◌+◌, ◌≤◌, ◌<◌}
use native.Mathlib.Decide.{dec_lt}
use native.Mathlib.Nat.{not-suc-le-zero, le_of_suc-le-suc, eq-or-lt_of_le}
use native.Mathlib.Numerals.{add-one}
use native.Mathlib.Omega.{arith, by_contra}
use lib.ListN.{length, get_or, set, take, drop, length-set, drop_of_length-le}
use lib.Seq.{get_or-set_same, get_or-set_other, take_all, take-take}
use borrow.Author.Tests.{eq-eqb}
use Rattle.counting.specs.Count.{occurs}
use Rattle.counting.proofs.Sums.{sum_take-le}
use Rattle.counting.proofs.Places.{from_place, one-more_at}
use Rattle.planner.specs.Entries.{Below, Rooms, total, Counted, AllZero}

-- ---- the sum of a list, and of its front

total-front_mono : (xs : List ℕ) (m n : ℕ) → m ≤ n → total (take m xs) ≤ total (take n xs)
total-front_mono xs m n h = rw (take-take m n xs h) at (sum_take-le (λ x. x) m (take n xs))

total-front-suc : (xs : List ℕ) (n : ℕ) → total (take (suc n) xs) ≡ total (take n xs) + get_or xs n 0
total-front-suc [] zero = omega arith
total-front-suc [] (suc n) = omega arith
total-front-suc (x ∷ xs) zero = omega arith
total-front-suc (x ∷ xs) (suc n) = omega (arith, total-front-suc xs n)

le_total : (xs : List ℕ) (i : ℕ) → get_or xs i 0 ≤ total xs
le_total xs i = omega (arith, total-front-suc xs i, sum_take-le (λ x. x) (suc i) xs)

pub no_total : (xs : List ℕ) → AllZero xs → total xs ≡ 0
no_total [] none = refl
no_total (x ∷ xs) none = omega (arith, none 0, no_total xs (λ i. none (suc i)))

one-more-total : (xs : List ℕ) (i : ℕ) → i < length xs → total (set xs i (get_or xs i 0 + 1)) ≡ total xs + 1
one-more-total [] i h = absurd (not-suc-le-zero h)
one-more-total (x ∷ xs) zero h = omega arith
one-more-total (x ∷ xs) (suc i) h = omega (arith, one-more-total xs i (le_of_suc-le-suc h))

-- ---- the loads, before hop i is counted: with the hops that are left they are the whole

pub record CountedTo (hops before loads : List ℕ) (i : ℕ) : Type 0 where
  pub near : i ≤ length hops
  pub long : length loads ≡ length before
  pub sum : total loads ≡ total before + i
  pub each : (link : ℕ) → get_or loads link 0 + occurs link (drop i hops) ≡ get_or before link 0 + occurs link hops

module _ {hops before loads : List ℕ} {i : ℕ} (w : CountedTo hops before loads i) where
  pub counted_le : (link : ℕ) → get_or loads link 0 ≤ total before + i
  counted_le link = omega (arith, le_total loads link)

  pub counted_turn : {link : ℕ} → i < length hops → link ≡ get_or hops i 0 → link < length loads
      → CountedTo hops before (set loads link (get_or loads link 0 + 1)) (i + 1)
  counted_turn {link} h e l = record {
    near = omega arith;
    long = length-set loads link _ ∙ w.long;
    sum = omega (arith, one-more-total loads link l);
    each = λ other. omega (arith, one-more_at loads link other l, rw (from_place hops i, ← e) at (w.each other));
  }

  -- the links that are gone over are the hops
  pub counted_over : {links : List ℕ} {link : ℕ} → i < length links → link ≡ get_or links i 0 → Below hops (length before) → links ≡ hops
      → CountedTo hops before (set loads link (get_or loads link 0 + 1)) (i + 1)
  counted_over {link = link} h e below same =
      let more : i < length hops = rw (← same) h in
      let counted : link ≡ get_or hops i 0 = rw (← same) e in
      counted_turn more counted (omega (arith, w.long, counted, below i more))

  pub counted_done : {links : List ℕ} → length links ≤ i → links ≡ hops → Counted hops before loads
  counted_done all same link = omega (arith, rw (drop_of_length-le hops {i = i} (rw (← same) all)) at (w.each link))

-- ---- the rooms, before that of the link is opened

-- the rooms of the links before it begin after the loads of those before them, and the rest of the list is as it was
pub record Begun (loads : List ℕ) (before : ℕ → ℕ) (places : List ℕ) (link : ℕ) : Type 0 where
  pub long : length places ≡ length loads
  pub begun : (i : ℕ) → i < link → get_or places i 0 ≡ total (take i loads)
  pub ahead : (i : ℕ) → link ≤ i → get_or places i 0 ≡ before i

begun_turn : {loads places : List ℕ} {before : ℕ → ℕ} {link place : ℕ} → Begun loads before places link → link < length loads
    → place ≡ total (take link loads) → Begun loads before (set places link place) (link + 1)
begun_turn {places = places} {link = link} {place = place} w l e = record {
  long = length-set places link place ∙ w.long;
  begun = λ i h. ⊎_elim
      (λ q. rw (q, get_or-set_same places link place 0 (omega arith)) e)
      (λ m. get_or-set_other places link i place 0 (omega arith) ∙ w.begun i m)
      (eq-or-lt_of_le {n = i} {m = link} (omega arith));
  ahead = λ i h. get_or-set_other places link i place 0 (omega arith) ∙ w.ahead i (omega arith);
}

-- the place is where the room of the link is to begin; what stood in nexts is the loads, and in firsts nothing
pub record Opened (hops : ℕ) (loads firsts nexts : List ℕ) (link place : ℕ) : Type 0 where
  pub whole : total loads ≡ hops
  pub near : link ≤ length loads
  pub here : place ≡ total (take link loads)
  pub first : Begun loads (λ i. 0) firsts link
  pub next : Begun loads (λ i. get_or loads i 0) nexts link

module _ {hops link place : ℕ} {loads firsts nexts : List ℕ} (w : Opened hops loads firsts nexts link place) where
  -- where some hops have no place yet, there is a link left
  pub opened_below : place < hops → link < length loads
  opened_below h = by_contra (suc link) (length loads) (λ l. omega (arith, rw (take_all link loads (omega arith)) at w.here))

  after_load : place + get_or nexts link 0 ≡ total (take (suc link) loads)
  after_load = omega (arith, w.next.ahead link (omega arith), total-front-suc loads link)

  pub opened_fits : place + get_or nexts link 0 ≤ hops
  opened_fits = omega (arith, after_load, sum_take-le (λ x. x) (suc link) loads)

  pub opened_turn : link < length loads → Opened hops loads (set firsts link place) (set nexts link place) (link + 1) (place + get_or nexts link 0)
  opened_turn l = record {
    whole = w.whole;
    near = omega arith;
    here = rw add-one after_load;
    first = begun_turn w.first l w.here;
    next = begun_turn w.next l w.here;
  }

  module _ (full : hops ≤ place) where
    -- where all have theirs, no link that is left has a load
    pub no_load-ahead : (i : ℕ) → link ≤ i → get_or loads i 0 ≡ 0
    no_load-ahead i h = omega (arith, total-front_mono loads link i h, total-front-suc loads i, sum_take-le (λ x. x) (suc i) loads)

    room_within : (i : ℕ) → get_or firsts i 0 + get_or loads i 0 ≤ hops
    room_within i = elim (dec_lt i link) [
      | yes l ↦ omega (arith, w.first.begun i l, total-front-suc loads i, sum_take-le (λ x. x) (suc i) loads)
      | no l ↦ omega (arith, w.first.ahead i (omega arith), no_load-ahead i (omega arith))
    ]

    -- the room of a link ends before that of a later one begins; but where none was opened for the later one, that is at 0 and has no load
    rooms_apart : (i j : ℕ) → i < j → (get_or firsts i 0 + get_or loads i 0 ≤ get_or firsts j 0) ⊎ (get_or firsts j 0 + get_or loads j 0 ≤ get_or firsts i 0)
    rooms_apart i j h = elim (dec_lt j link) [
      | yes l ↦ inl (omega (arith, w.first.begun i (omega arith), w.first.begun j l, total-front-suc loads i, total-front_mono loads (suc i) j h))
      | no l ↦ inr (omega (arith, w.first.ahead j (omega arith), no_load-ahead j (omega arith)))
    ]

    pub opened_rooms : Rooms (λ i. get_or loads i 0) firsts hops
    opened_rooms = record {
      within = room_within;
      apart = λ i j n. elim (dec_lt i j) [ yes l ↦ rooms_apart i j l | no l ↦ ⊎_swap (rooms_apart j i (omega arith)) ];
    }

    pub opened_empty : (i : ℕ) → get_or nexts i 0 ≡ get_or firsts i 0
    opened_empty i = elim (dec_lt i link) [
      | yes l ↦ w.next.begun i l ∙ sym (w.first.begun i l)
      | no l ↦ omega (arith, w.next.ahead i (omega arith), w.first.ahead i (omega arith), no_load-ahead i (omega arith))
    ]

-- ---- rooms for the hops that were counted

-- the link of a hop stands among the hops
occurs_at : (hops : List ℕ) (i : ℕ) → i < length hops → 0 < occurs (get_or hops i 0) hops
occurs_at [] i h = absurd (not-suc-le-zero h)
occurs_at (link ∷ hops) zero h = rw (eq-eqb link link refl) (omega arith)
occurs_at (link ∷ hops) (suc i) h = omega (arith, occurs_at hops i (le_of_suc-le-suc h))

module _ (hops before loads : List ℕ) (none : AllZero before) (counted : Counted hops before loads) where
  load : (link : ℕ) → get_or loads link 0 ≡ occurs link hops
  load link = omega (arith, none link, counted link)

  -- where no link has a load from some number on, every hop is on one below it
  pub hops_below_room : (links : ℕ) → ((link : ℕ) → links ≤ link → get_or loads link 0 ≡ 0) → Below hops links
  hops_below_room links ahead i h =
      let link = get_or hops i 0 in
      by_contra (suc link) links (λ past. omega (arith, load link, ahead link (omega arith), occurs_at hops i h))
