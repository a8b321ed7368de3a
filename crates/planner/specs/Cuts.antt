-- How the first hop is found that enters its link in a step again: each link's part is cut at its first entry that repeats one before it,
-- and, if one was cut, the hops are walked until the entry of one stands at its link's cut.
use Rattle.std.specs.Prelude.{◌≡◌, Bool, true, false, List, Option, Some, None, ℕ, ◌+◌, ◌-◌, ◌*◌, ◌/◌, ◌≤◌, ◌<◌, eqb, length, get_or, take}
use Rattle.counting.specs.Count.{any_of, among, occurs}
use Rattle.marks.specs.Marks.{unmarked}
use Rattle.planner.specs.Entries.{steps_on, Below, Parts}
use Rattle.planner.specs.Again.{FirstOf}

-- whether a step stands among those before it
abbrev pub repeats : List ℕ → ℕ → Bool
repeats steps i = among (get_or steps i 0) (take i steps)

-- the place of the first step that does, if one does
abbrev pub FirstRepeat : List ℕ → Option ℕ → Type 0
FirstRepeat steps = FirstOf (repeats steps) (length steps)

-- where steps are cut: at the first that does, or where they end
pub record CutAt (steps : List ℕ) (r : ℕ) : Type 0 where
  pub within : r ≤ length steps
  pub here : r < length steps → repeats steps r ≡ true
  pub earlier : (i : ℕ) → i < r → repeats steps i ≡ false

-- a word in which none of the steps falls is 0
abbrev pub MarksWithin : (steps words : List ℕ) → Type 0
MarksWithin steps words = (at : ℕ) → any_of (λ step. eqb (step / 64) at) steps ≡ false → get_or words at 0 ≡ 0

-- steps may be marked one by one: each has a bit, and none is set
abbrev pub Markable : (steps words : List ℕ) → Type 0
Markable steps words = Below steps (64 * length words) × (words ≡ unmarked (length words))

-- the parts may be cut: each link has one, a number past the links has no entry, and the steps may be marked
pub record Cuttable (links : ℕ) (firsts nexts steps words : List ℕ) : Type 0 where
  pub few : links ≤ length firsts
  pub lengths : length firsts ≡ length nexts
  pub others : (link : ℕ) → links ≤ link → get_or nexts link 0 ≡ get_or firsts link 0
  pub parts : Parts firsts nexts (length steps)
  pub marks : Markable steps words

-- each link's cut is where its first entry stands that repeats one before it, or where its part ends
pub record Cut (firsts nexts steps cuts : List ℕ) : Type 0 where
  pub rises : (link : ℕ) → get_or firsts link 0 ≤ get_or cuts link 0
  pub first : (link : ℕ) → CutAt (steps_on firsts nexts steps link) (get_or cuts link 0 - get_or firsts link 0)

-- no part ends elsewhere than it did
pub record SameParts (before nexts : List ℕ) : Type 0 where
  pub ends : (link : ℕ) → get_or nexts link 0 ≡ get_or before link 0

-- the hops may be walked: each link has its place and its cut, which does not lie before it
abbrev pub Walkable : (hops firsts cuts : List ℕ) → Type 0
Walkable hops firsts cuts = Below hops (length firsts) × (length firsts ≡ length cuts) × ((link : ℕ) → get_or firsts link 0 ≤ get_or cuts link 0)

-- where the entry of hop i stands in its link's part, as the hops before it have entered the link
unfoldable pub place_of : (hops firsts : List ℕ) → ℕ → ℕ
place_of hops firsts i = get_or firsts (get_or hops i 0) 0 + occurs (get_or hops i 0) (take i hops)

-- the first hop whose entry stands at its link's cut
pub record IsBeyond (hops firsts cuts : List ℕ) (r : ℕ) : Type 0 where
  pub within : r < length hops
  pub here : place_of hops firsts r ≡ get_or cuts (get_or hops r 0) 0
  pub earlier : (i : ℕ) → i < r → place_of hops firsts i < get_or cuts (get_or hops i 0) 0

-- the first, if one does
abbrev pub FirstBeyond : (hops firsts cuts : List ℕ) → Option ℕ → Type 0
FirstBeyond hops firsts cuts None = (i : ℕ) → i < length hops → place_of hops firsts i < get_or cuts (get_or hops i 0) 0
FirstBeyond hops firsts cuts (Some r) = IsBeyond hops firsts cuts r
