-- Entries from packet to packet: none at first, and then those of each packet at its start. They leave room for the hops to come, and
-- so a packet may search among them and add its own.
use mathlib.Core.Path.{◌≡◌, refl, sym, ap, ◌∙◌}
use mathlib.Core.Bool.{Bool, ◌||◌, or-false}
use mathlib.Core.List.{List, [], ◌∷◌, ◌++◌}
use Prim.Native.Nat.{ℕ, ◌+◌, ◌-◌, ◌*◌, ◌/◌, ◌≤◌, ◌<◌}
use native.Mathlib.Omega.{arith}
use native.Mathlib.Numerals.{add-one}
use lib.ListN.{length, get_or, take, drop, set, length-take, length-drop, take-append-drop}
use lib.Seq.{take-suc, take-suc-set, length-take-le, drop-drop}
use Rattle.counting.specs.Count.{any_of, among, occurs}
use Rattle.counting.proofs.Tests.{any_append}
use Rattle.counting.proofs.Sums.{sum_append}
use Rattle.counting.proofs.Places.{at-get_or, at_mem}
use Rattle.rules.specs.Sizes.{links_most, hops_most}
use Rattle.rules.specs.Network.{paths_from}
use Rattle.rules.specs.Claims.{place, placed, takes, taken}
use Rattle.theorems.proofs.Placements.{placed_by-snoc}
use Rattle.theorems.proofs.Accepted.{length-paths_from}
use Rattle.theorems.proofs.HopsOnPaths.{mem-paths}
use Rattle.marks.specs.Marks.{numbers_most}
use Rattle.planner.specs.PacketsInLists.{SimplePaths, path_claims, begin_from, path_at, before}
use Rattle.planner.specs.Entries.{Below, steps_on, entered, Parts, Searchable, FoundAmong, Rooms, RoomFor, Enterable, EntriesBefore, Counted}
use Rattle.planner.specs.Again.{steps_at}
use Rattle.planner.specs.EntriesAdded.{claim_steps, EntriesAdded}
use Rattle.planner.proofs.PathParts.{part}
use Rattle.planner.proofs.StepsInOrder.{among-path_steps}
use Rattle.planner.proofs.EnteringLinks.{room_for-rest}
use Rattle.planner.proofs.Filling.{start_at}
use Rattle.planner.proofs.Searching.{start-le_begin}

-- ---- the path of packet k

module _ (stops hops : List ℕ) (simple : SimplePaths stops hops) (k : ℕ) (l : k < length stops) where
  links_below : Below (path_at stops hops k) links_most
  unfolding path_at
  links_below i m =
      let ps = paths_from 0 stops hops in
      let own = at_mem ps k (at-get_or ps k [] (omega (arith, length-paths_from 0 stops hops))) in
      (simple.simple (get_or ps k []) own).below _ (at_mem (get_or ps k []) i (at-get_or (get_or ps k []) i 0 m))

  pub path_end : begin_from 0 stops k + length (path_at stops hops k) ≡ get_or stops k 0
  path_end =
      let p = part stops hops k simple l _ _ refl refl in
      omega (
        arith,
        p.rises,
        p.within,
        ap length p.links,
        length-take (get_or stops k 0 - begin_from 0 stops k) (drop (begin_from 0 stops k) hops),
        length-drop (begin_from 0 stops k) hops,
      )

  path_within : begin_from 0 stops k + length (path_at stops hops k) ≤ hops_most
  path_within = let p = part stops hops k simple l _ _ refl refl in omega (arith, path_end, p.within, simple.few)

  -- the hops from where it begins are its own and then those of the packets after it
  pub hops_from_begin : drop (begin_from 0 stops k) hops ≡ path_at stops hops k ++ drop (get_or stops k 0) hops
  hops_from_begin =
      let p = part stops hops k simple l _ _ refl refl in
      let n = get_or stops k 0 - begin_from 0 stops k in
      let there : begin_from 0 stops k + n ≡ get_or stops k 0 = omega (arith, p.rises) in
      sym (take-append-drop n (drop (begin_from 0 stops k) hops)) ∙ rw (← p.links, drop-drop n (begin_from 0 stops k) hops, there)

-- ---- what packet k asks of the entries

module _ (stops hops starts : List ℕ) (k : ℕ) (simple : SimplePaths stops hops) (l : k < length stops) (firsts nexts steps : List ℕ)
    (c : EntriesBefore stops hops starts k firsts nexts steps) (path : List ℕ) (is_path : path ≡ path_at stops hops k) where
  room_for_all : RoomFor (path ++ drop (get_or stops k 0) hops) (λ link. occurs link hops) firsts nexts
  room_for_all = rw (is_path, ← hops_from_begin stops hops simple k l) c.room_left

  -- its own hops and those after it
  both : (link : ℕ) → occurs link (path ++ drop (get_or stops k 0) hops) ≡ occurs link path + occurs link (drop (get_or stops k 0) hops)
  both link = sum_append _ path (drop (get_or stops k 0) hops)

  room_for-path : RoomFor path (λ link. occurs link hops) firsts nexts
  room_for-path = record { rises = c.room_left.rises; fits = λ link. omega (arith, room_for_all.fits link, both link) }

  below : (n : ℕ) → n ≡ links_most → Below path n
  below n e i m = rw (e, is_path) (links_below stops hops simple k l i (rw is_path at m))

  path_fits : begin_from 0 stops k + length path ≤ hops_most
  path_fits = rw is_path (path_within stops hops simple k l)

  pub begin_within : begin_from 0 stops k ≤ hops_most
  begin_within = omega (arith, path_fits)

  -- its search is lent words enough
  pub words_lent : (words : List ℕ) (from : ℕ) → from ≡ begin_from 0 stops k → hops_most < 64 * length words
      → length (take (from / 64 + 1) words) ≡ begin_from 0 stops k / 64 + 1
  words_lent words from e h =
      let z : from / 64 + 1 ≡ begin_from 0 stops k / 64 + 1 = omega (arith, e) in
      rw z (length-take-le (begin_from 0 stops k / 64 + 1) words (omega (arith, begin_within, h)))

  -- and finds its links' parts
  pub search_ready : (n : ℕ) → n ≡ begin_from 0 stops k / 64 + 1
      → Searchable path firsts nexts (length steps) × (64 * n ≤ numbers_most)
  search_ready n enough =
      let parts : Parts firsts nexts (length steps) = record {
        rises = c.room_left.rises;
        within = λ link. omega (arith, room_for-path.fits link, c.rooms.within link, c.steps_length);
      } in
      ((below _ c.firsts_length, c.firsts_length ∙ sym c.nexts_length, parts, omega (arith, path_fits)), omega (arith, begin_within, enough))

  -- there it finds the first free step
  pub search_found : (n r : ℕ) → n ≡ begin_from 0 stops k / 64 + 1
      → FoundAmong path firsts nexts steps n r → r ≡ start_at stops hops starts k
  search_found n r enough found = rw is_path at (found (before stops hops starts k) c.entries (rw is_path (omega (arith, start-le_begin stops hops starts k simple l, enough))))

  -- and its entries their room
  pub enter_ready : (s : ℕ) → s ≡ start_at stops hops starts k → Enterable path s nexts (length steps)
  enter_ready s is_start = (
    below _ c.nexts_length,
    omega (arith, path_fits, is_start, start-le_begin stops hops starts k simple l),
    omega (arith, c.steps_length),
    λ link. omega (arith, room_for-path.fits link, c.rooms.within link, c.steps_length),
  )

-- ---- a packet more

-- a link is entered in a step if it was, or if the packet takes it then
entered_added : (path nexts steps nexts' steps' firsts : List ℕ) (s : ℕ) {room : ℕ → ℕ}
    → EntriesAdded path (claim_steps (place s (path_claims path))) nexts steps nexts' steps' → Rooms room firsts (length steps) → RoomFor path room firsts nexts
    → (link step : ℕ) → entered firsts nexts' steps' link step ≡ (entered firsts nexts steps link step || takes (place s (path_claims path)) link step)
unfolding entered
entered_added path nexts steps nexts' steps' firsts s {room} added rooms free link step =
    rw (added room firsts rooms free link)
    (any_append _ (steps_on firsts nexts steps link) (steps_at link path (claim_steps (place s (path_claims path))))
    ∙ ap (λ (b : Bool). among step (steps_on firsts nexts steps link) || b) (among-path_steps s path link step))

module _ (stops hops starts : List ℕ) (k s : ℕ) (l : k < length stops) (room : k < length starts) where
  before_next : before stops hops (set starts k s) (k + 1) ≡ before stops hops starts k ++ (place s (path_claims (path_at stops hops k)) ∷ [])
  unfolding before path_at
  before_next =
      let ps = paths_from 0 stops hops in
      let n : length ps ≡ length stops = length-paths_from 0 stops hops in
      rw (add-one k, take-suc-set starts k s room, take-suc ps k [] (omega (arith, n)))
      (placed_by-snoc path_claims (take k starts) (take k ps) s (get_or ps k [])
      (length-take-le k starts (omega arith) ∙ sym (length-take-le k ps (omega (arith, n)))))

  taken_next : (link step : ℕ) → taken (before stops hops (set starts k s) (k + 1)) link step
      ≡ (taken (before stops hops starts k) link step || takes (place s (path_claims (path_at stops hops k))) link step)
  unfolding taken
  taken_next link step =
      rw before_next
      (any_append (λ b. takes b link step) (before stops hops starts k) (place s (path_claims (path_at stops hops k)) ∷ [])
      ∙ ap (λ (b : Bool). any_of (λ b. takes b link step) (before stops hops starts k) || b) (or-false _))

  module _ (simple : SimplePaths stops hops) (firsts nexts steps : List ℕ) (c : EntriesBefore stops hops starts k firsts nexts steps)
      (path : List ℕ) (is_path : path ≡ path_at stops hops k) (nexts' steps' : List ℕ) (same_nexts : length nexts' ≡ length nexts) (same_steps : length steps' ≡ length steps) where
    pub entries_next : Counted path nexts nexts'
        → EntriesAdded path (claim_steps (place s (path_claims path))) nexts steps nexts' steps'
        → EntriesBefore stops hops (set starts k s) (k + 1) firsts nexts' steps'
    entries_next more added = record {
      firsts_length = c.firsts_length;
      nexts_length = same_nexts ∙ c.nexts_length;
      steps_length = same_steps ∙ c.steps_length;
      rooms = c.rooms;
      room_left = rw add-one (room_for-rest (room_for_all stops hops starts k simple l firsts nexts steps c path is_path) (λ link. omega (arith, more link))
          (λ link. omega (arith, more link, both stops hops starts k simple l firsts nexts steps c path is_path link)));
      entries = record {
        same = λ link step.
            entered_added path nexts steps nexts' steps' firsts s added (rw c.steps_length c.rooms) (room_for-path stops hops starts k simple l firsts nexts steps c path is_path) link step
            ∙ rw (c.entries.same link step, is_path) (sym (taken_next link step));
      };
    }

-- ---- no packet yet

-- every hop is on one of the links, and so on one that has a place
pub hops_below : (stops hops : List ℕ) → SimplePaths stops hops → Below hops links_most
hops_below stops hops simple i m =
    let (path, own, on_path) = mem-paths 0 stops hops simple.agree (at_mem hops i (at-get_or hops i 0 m)) in
    (simple.simple path own).below _ on_path

-- there is room for all hops, and nobody has entered one
pub entries_none : (stops hops starts firsts nexts steps : List ℕ) → length hops ≤ hops_most → Rooms (λ link. occurs link hops) firsts (length hops)
    → ((link : ℕ) → get_or nexts link 0 ≡ get_or firsts link 0) → length firsts ≡ links_most → length nexts ≡ links_most → length steps ≡ hops_most
    → EntriesBefore stops hops starts 0 firsts nexts steps
unfolding entered steps_on taken before placed
entries_none stops hops starts firsts nexts steps few opened empty f n s = record {
  firsts_length = f;
  nexts_length = n;
  steps_length = s;
  rooms = record { within = λ link. omega (arith, opened.within link); apart = opened.apart };
  room_left = record { rises = λ link. omega (arith, empty link); fits = λ link. omega (arith, empty link) };
  entries = record {
    same = λ link step. let z : get_or nexts link 0 - get_or firsts link 0 ≡ 0 = omega (arith, empty link) in rw z;
  };
}
