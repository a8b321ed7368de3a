-- Document 02, request 2: the entries of those that stand, by link. The steps in which a link is entered stand side by side in a list
-- of steps: its part runs from where its first one stands to where its next one will. A link past the lists has no part.
use Rattle.std.specs.Prelude.{◌≡◌, Bool, ◌||◌, List, ◌⊎◌, ℕ, ◌+◌, ◌-◌, ◌*◌, ◌≤◌, ◌<◌, length, get_or, take, drop}
use Rattle.counting.specs.Count.{any_of, among, sum_of, occurs}
use Rattle.rules.specs.Sizes.{links_most, hops_most}
use Rattle.rules.specs.Claims.{Claim, Placed, taken}
use Rattle.rules.specs.Greedy.{first_free}
use Rattle.marks.specs.Marks.{marked}
use Rattle.planner.specs.PacketsInLists.{path_claims, begin_from, before}

-- ---- what the entries say

-- the steps in which the link is entered
unfoldable pub steps_on : (firsts nexts steps : List ℕ) → ℕ → List ℕ
steps_on firsts nexts steps link = take (get_or nexts link 0 - get_or firsts link 0) (drop (get_or firsts link 0) steps)

-- whether the link is entered in the step
unfoldable pub entered : (firsts nexts steps : List ℕ) → ℕ → ℕ → Bool
entered firsts nexts steps link step = among step (steps_on firsts nexts steps link)

-- the entries are those of the placed packets, whoever they are
pub record EntriesOf (bs : List Placed) (firsts nexts steps : List ℕ) : Type 0 where
  pub same : (link step : ℕ) → entered firsts nexts steps link step ≡ taken bs link step

-- whether a packet with these claims, started at s, would enter a link in a step in which it is entered
unfoldable pub ruled_out : (firsts nexts steps : List ℕ) → List Claim → ℕ → Bool
ruled_out firsts nexts steps cs s = any_of (λ c. entered firsts nexts steps c.resource (s + c.offset)) cs

-- ---- what may be asked of them, and what is answered

-- the greatest number of 16 bits: loads, places and offsets have as many
abbrev pub widest : ℕ
widest = 65535

-- every number of the list is below n, as a link's is that has a place in a list of n
abbrev pub Below : List ℕ → ℕ → Type 0
Below links n = (i : ℕ) → i < length links → get_or links i 0 < n

-- every link of the list is one of n, which are no more than a job may have
abbrev pub OnLinks : ℕ → List ℕ → Type 0
OnLinks n links = Below links n × (n ≤ links_most)

-- each link's part runs from its first to its next, within n steps
pub record Parts (firsts nexts : List ℕ) (n : ℕ) : Type 0 where
  pub rises : (link : ℕ) → get_or firsts link 0 ≤ get_or nexts link 0
  pub within : (link : ℕ) → get_or nexts link 0 ≤ n

-- a packet on this path may search: its links have their parts, and its offsets have 16 bits
abbrev pub Searchable : (path firsts nexts : List ℕ) → ℕ → Type 0
Searchable path firsts nexts n = Below path (length firsts) × (length firsts ≡ length nexts) × Parts firsts nexts n × (length path ≤ widest)

-- the words once the starts are marked that are ruled out: a start that they have a bit for is marked if it was, or if it is ruled out
abbrev pub MarksAdded : (path firsts nexts steps words words' : List ℕ) → Type 0
MarksAdded path firsts nexts steps words words' =
    (s : ℕ) → s < 64 * length words → marked words' s ≡ (marked words s || ruled_out firsts nexts steps (path_claims path) s)

-- r is the first free step of the path against whatever packets the entries are of, if so many words have a bit for it
abbrev pub FoundAmong : (path firsts nexts steps : List ℕ) (words r : ℕ) → Type 0
FoundAmong path firsts nexts steps words r =
    (bs : List Placed) → EntriesOf bs firsts nexts steps → first_free bs (path_claims path) < 64 * words → r ≡ first_free bs (path_claims path)

-- ---- room for more

-- every number of the list is 0
abbrev pub AllZero : List ℕ → Type 0
AllZero ns = (link : ℕ) → get_or ns link 0 ≡ 0

-- each link's number has grown by how often it stands among the links
abbrev pub Counted : (links before after : List ℕ) → Type 0
Counted links before after = (link : ℕ) → get_or after link 0 ≡ get_or before link 0 + occurs link links

-- the sum of a list
abbrev pub total : List ℕ → ℕ
total ns = sum_of (λ n. n) ns

-- each link has a room of its own, for so many entries, among n steps
pub record Rooms (room : ℕ → ℕ) (firsts : List ℕ) (n : ℕ) : Type 0 where
  pub within : (link : ℕ) → get_or firsts link 0 + room link ≤ n
  pub apart : (link other : ℕ) → (link ≡ other → ⊥)
      → (get_or firsts link 0 + room link ≤ get_or firsts other 0) ⊎ (get_or firsts other 0 + room other ≤ get_or firsts link 0)

-- each room has a place left for every time that its link stands in the list
pub record RoomFor (links : List ℕ) (room : ℕ → ℕ) (firsts nexts : List ℕ) : Type 0 where
  pub rises : (link : ℕ) → get_or firsts link 0 ≤ get_or nexts link 0
  pub fits : (link : ℕ) → get_or nexts link 0 + occurs link links ≤ get_or firsts link 0 + room link

-- the links of a path may be entered from the start on: there are places for them among n steps
abbrev pub Enterable : (path : List ℕ) (start : ℕ) (nexts : List ℕ) → ℕ → Type 0
Enterable path start nexts n =
    Below path (length nexts) × (start + length path ≤ widest) × (n ≤ widest) × ((link : ℕ) → get_or nexts link 0 + occurs link path ≤ n)

-- as the entries stand before packet k: those of the packets listed before it, with room left for all hops from its own on
pub record EntriesBefore (stops hops starts : List ℕ) (k : ℕ) (firsts nexts steps : List ℕ) : Type 0 where
  pub firsts_length : length firsts ≡ links_most
  pub nexts_length : length nexts ≡ links_most
  pub steps_length : length steps ≡ hops_most
  pub rooms : Rooms (λ link. occurs link hops) firsts hops_most
  pub room_left : RoomFor (drop (begin_from 0 stops k) hops) (λ link. occurs link hops) firsts nexts
  pub entries : EntriesOf (before stops hops starts k) firsts nexts steps
