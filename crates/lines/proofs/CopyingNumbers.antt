-- The numbers behind a place, counted and copied one by one.
use mathlib.Core.Path.{◌≡◌, refl, sym, ◌∙◌}
use mathlib.Core.List.{List, [], ◌∷◌}
use mathlib.Core.Option.{Option, none, some}
use Rattle.std.proofs.Common.{Option as Answer, None, Some}
use Prim.Native.Nat.{ℕ, suc, ◌+◌, ◌≤◌}
use native.Mathlib.Numerals.{add-one}
use native.Mathlib.Nat.{zero-add, add-zero}
use native.Mathlib.Omega.{arith}
use lib.ListN.{length, set, length-set}
use lib.Seq.{set_out, sets}
use Rattle.counting.proofs.Places.{some_same, none_not_some}
use Rattle.rules.specs.Bytes.{number_of, cons_onto, numbers_of}
use Rattle.lines.specs.declared.reading.Copied.{Copied}
use Rattle.lines.specs.Behind.{line_end, fields_behind, copied, in_front, leading}
use Rattle.lines.proofs.BehindPlaces.{NoneBehind, SaidBehind, unsaid_behind, none_behind}

-- so many numbers and those that are left
abbrev more : ℕ → Option (List ℕ) → ℕ → Answer Copied
more k none end = None
more k (some ns) end = Some (record { count = k + length ns; end = end })

more_none : (o : Option (List ℕ)) (end : ℕ) → copied o end ≡ more 0 o end
more_none none end = refl
more_none (some ns) end = rw zero-add

more-one : (k value : ℕ) (o : Option (List ℕ)) (end : ℕ) → more k (cons_onto (some value) o) end ≡ more (k + 1) o end
more-one k value none end = refl
more-one k value (some ns) end = let e : k + length (value ∷ ns) ≡ k + 1 + length ns = omega arith in rw e

-- past the end nothing is stored
sets_past : (vs list : List ℕ) (i : ℕ) → length list ≤ i → sets list i vs ≡ list
sets_past [] list i h = refl
sets_past (v ∷ vs) list i h = rw (set_out list i v h) (sets_past vs list (suc i) (omega arith))

-- all that the fields say is what those that are left say, and the count; and storing all numbers into the list as it was is storing
-- those that are left into the list as it is
pub record Copying (text : List ℕ) (at : ℕ) (list₀ : List ℕ) (from : ℕ) (list : List ℕ) (place count i : ℕ) : Type 0 where
  pub same : length list ≡ length list₀
  pub few : count ≤ place
  pub counted : copied (numbers_of (fields_behind text at)) (line_end text at) ≡ more count (numbers_of (fields_behind text place)) (line_end text place)
  pub stored : sets list₀ from (leading (fields_behind text at)) ≡ sets list i (leading (fields_behind text place))

pub copying : (text : List ℕ) (at : ℕ) (list : List ℕ) (from : ℕ) → Copying text at list from list at 0 from
copying text at list from = record { same = refl; few = omega arith; counted = more_none (numbers_of (fields_behind text at)) (line_end text at); stored = refl }

module _ {text : List ℕ} {at : ℕ} {list₀ : List ℕ} {from : ℕ} {list : List ℕ} {place count i : ℕ} (c : Copying text at list₀ from list place count i) where
  module _ {value end : ℕ} (f : SaidBehind text place value end) where
    one_more : copied (numbers_of (fields_behind text at)) (line_end text at) ≡ more (count + 1) (numbers_of (fields_behind text end)) (line_end text end)
    one_more = c.counted ∙ rw (f.numbers, f.same_line) (more-one count value (numbers_of (fields_behind text end)) (line_end text end))

    pub copying_stored : Copying text at list₀ from (set list i value) end (count + 1) (i + 1)
    copying_stored = record {
      same = simp length-set c.same;
      few = let k = c.few in let w = f.forward in omega arith;
      counted = one_more;
      stored = c.stored ∙ rw (f.front, add-one);
    }

    pub copying_past : length list ≤ i → Copying text at list₀ from list end (count + 1) i
    copying_past h = record {
      same = c.same;
      few = let k = c.few in let w = f.forward in omega arith;
      counted = one_more;
      stored = c.stored ∙ sets_past (leading (fields_behind text place)) list i h ∙ sym (sets_past (leading (fields_behind text end)) list i h);
    }

  pub copied_none : (numbers_of (fields_behind text place) ≡ none) × (leading (fields_behind text place) ≡ [])
      → (None ≡ copied (numbers_of (fields_behind text at)) (line_end text at)) × (list ≡ sets list₀ from (leading (fields_behind text at)))
  copied_none n = (sym (c.counted ∙ rw n.0), sym (c.stored ∙ rw n.1))

  pub copied_all : NoneBehind text place
      → (Some (record { count = count; end = place }) ≡ copied (numbers_of (fields_behind text at)) (line_end text at)) × (list ≡ sets list₀ from (leading (fields_behind text at)))
  unfolding numbers_of leading
  copied_all n = (sym (c.counted ∙ rw (n.fields, n.ends, add-zero)), sym (c.stored ∙ rw n.fields))

-- at a field that says no number, and where there is none, no more is copied
pub ruleset copied_here = (unsaid_behind, none_behind, copied_none, copied_all)

-- ---- all numbers

-- where each field says one, the fields up to one that says none are all fields
pub all_said : (fs : List (List ℕ)) {ns : List ℕ} → numbers_of fs ≡ some ns → leading fs ≡ ns
unfolding numbers_of leading
all_said [] e = some_same e
all_said (f ∷ fs) {ns} e = go (number_of f) refl (numbers_of fs) refl e (λ m e. all_said fs e)
  where
    go : (a : Option ℕ) → number_of f ≡ a → (b : Option (List ℕ)) → numbers_of fs ≡ b → cons_onto a b ≡ some ns
        → ((ms : List ℕ) → numbers_of fs ≡ some ms → leading fs ≡ ms) → in_front (number_of f) (leading fs) ≡ ns
    go none p b q e r = absurd (none_not_some e)
    go (some n) p none q e r = absurd (none_not_some e)
    go (some n) p (some ms) q e r = rw (p, r ms q) (some_same e)
