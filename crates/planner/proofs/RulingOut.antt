-- Ruling starts out along a path: what the marks come to.
use mathlib.Core.Path.{◌≡◌, sym, ◌∙◌}
use mathlib.Core.Bool.{◌||◌, or-false, or_assoc}
use mathlib.Core.List.{List}
use Prim.Native.Nat.{ℕ, ◌+◌, ◌*◌, ◌≤◌, ◌<◌}
use native.Mathlib.Omega.{arith}
use lib.ListN.{length, get_or, drop, drop_of_length-le}
use Rattle.counting.proofs.Places.{from_place}
use Rattle.rules.specs.Travel.{one_step}
use Rattle.rules.specs.Claims.{link_claims}
use Rattle.marks.specs.Marks.{marked, with_starts}
use Rattle.planner.specs.PacketsInLists.{path_claims}
use Rattle.planner.specs.Entries.{steps_on, entered, ruled_out, MarksAdded}
use Rattle.marks.proofs.Marking.{length-with_starts, marked-with_starts}

-- the marks so far, and those that the rest of the path will make
pub record MarkedSoFar (path firsts nexts steps words₀ words : List ℕ) (hop offset : ℕ) : Type 0 where
  pub words_length : length words ≡ length words₀
  pub marks : (s : ℕ) → s < 64 * length words₀
      → (marked words s || ruled_out firsts nexts steps (link_claims one_step offset (drop hop path)) s)
      ≡ (marked words₀ s || ruled_out firsts nexts steps (path_claims path) s)

module _ {path firsts nexts steps words₀ words : List ℕ} {hop offset : ℕ} (so_far : MarkedSoFar path firsts nexts steps words₀ words hop offset) where
  module _ (more : hop < length path) where
    abbrev l : ℕ
    l = get_or path hop 0

    ruled_out_next : (s : ℕ) → ruled_out firsts nexts steps (link_claims one_step offset (drop hop path)) s
        ≡ (entered firsts nexts steps l (s + offset) || ruled_out firsts nexts steps (link_claims one_step (offset + one_step l) (drop (hop + 1) path)) s)
    unfolding ruled_out link_claims
    ruled_out_next s = rw (from_place path hop more)

    pub marked_turn : MarkedSoFar path firsts nexts steps words₀ (with_starts offset (steps_on firsts nexts steps l) words) (hop + 1) (offset + one_step l)
    unfolding entered
    marked_turn =
        let part = steps_on firsts nexts steps l in record {
          words_length = length-with_starts offset part words ∙ so_far.words_length;
          marks = λ s within.
              rw (marked-with_starts offset part words s (omega (arith, so_far.words_length)), or_assoc)
              (rw (ruled_out_next s) at (so_far.marks s within));
        }

  pub marked_done : length path ≤ hop → MarksAdded path firsts nexts steps words₀ words
  unfolding ruled_out link_claims
  marked_done all s within = sym (or-false (marked words s)) ∙ rw (drop_of_length-le path {i = hop} all) at (so_far.marks s within)
