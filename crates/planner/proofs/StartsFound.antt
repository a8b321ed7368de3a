-- The first start without a mark is the first free step: a start is marked exactly where a packet that stands blocks it.
use mathlib.Core.Path.{◌≡◌, subst, sym, ◌∙◌}
use mathlib.Core.List.{List}
use Prim.Native.Nat.{ℕ, ◌+◌, ◌*◌, ◌≤◌, ◌<◌}
use native.Mathlib.Omega.{arith, by_contra}
use Rattle.counting.proofs.Tests.{never_both, any_same}
use Rattle.rules.specs.Claims.{Claim, Placed, blocked}
use Rattle.rules.specs.Greedy.{first_free, FirstFree}
use Rattle.theorems.proofs.Conflicts.{blocked-taken}
use Rattle.theorems.proofs.FirstFrees.{first_free_is, first_free_unique}
use Rattle.marks.specs.Marks.{marked, unmarked, numbers_most, FirstUnmarked}
use Rattle.planner.specs.PacketsInLists.{path_claims}
use Rattle.planner.specs.Entries.{EntriesOf, ruled_out, MarksAdded}
use Rattle.marks.proofs.Marking.{none_marked, length-unmarked}

module _ (path firsts nexts steps : List ℕ) (bs : List Placed) (entries : EntriesOf bs firsts nexts steps) where
  abbrev cs : List Claim
  cs = path_claims path

  ruled_out-iff-blocked : (s : ℕ) → ruled_out firsts nexts steps cs s ≡ blocked bs cs s
  unfolding ruled_out
  ruled_out-iff-blocked s = any_same _ _ cs (λ c. entries.same c.resource (s + c.offset)) ∙ sym (blocked-taken bs cs s)

  -- the words were cleared, and then the starts marked that are ruled out
  module _ (n : ℕ) (cleared words : List ℕ) (is_cleared : cleared ≡ unmarked n) {along : List ℕ}
      (ruled : MarksAdded along firsts nexts steps cleared words) (same : along ≡ path) where
    marked-iff-blocked : (s : ℕ) → s < 64 * n → marked words s ≡ blocked bs cs s
    marked-iff-blocked s l =
        subst (λ on. MarksAdded on firsts nexts steps cleared words) same ruled s (rw (is_cleared, length-unmarked n) l) ∙ rw (is_cleared, none_marked n s) (ruled_out-iff-blocked s)

    pub first_free-found : (r : ℕ) → FirstUnmarked words r → 64 * n ≤ numbers_most → first_free bs cs < 64 * n → r ≡ first_free bs cs
    first_free-found r first few within = first_free_unique bs cs r (first_free bs cs) is_first (first_free_is bs cs)
      where
        not_later : r ≤ first_free bs cs
        not_later = by_contra r (first_free bs cs) (λ l.
            never_both (marked words (first_free bs cs)) (first.least _ l) (marked-iff-blocked _ within ∙ (first_free_is bs cs).free))

        is_first : FirstFree bs cs r
        is_first = record {
          free = sym (marked-iff-blocked r (omega (arith, not_later, within))) ∙ first.free (omega (arith, not_later, within, few));
          least = λ t l. sym (marked-iff-blocked t (omega (arith, not_later, within, l))) ∙ first.least t l;
        }
