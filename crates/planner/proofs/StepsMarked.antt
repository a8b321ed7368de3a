-- Steps that are marked one by one until one repeats: the marks are of the steps so far, and once their words are wiped there is none.
use mathlib.Core.Path.{◌≡◌, refl, sym, ap, ◌∙◌}
use mathlib.Core.Bool.{Bool, true, false, or-false}
use mathlib.Core.List.{List, [], ◌∷◌, ◌++◌}
use mathlib.Core.Logic.{⊎_elim}
use Prim.Native.Nat.{ℕ, zero, suc, ◌+◌, ◌*◌, ◌/◌, ◌%◌, ◌^◌, ◌≤◌, ◌<◌}
use native.Mathlib.Nat.{eq-or-lt_of_le}
use native.Mathlib.Numerals.{add-one}
use native.Mathlib.Omega.{arith}
use lib.Bits.{bit_or}
use lib.Dec.{eqb}
use lib.ListN.{length, get_or, take, drop, set, length-set, drop_of_length-le}
use lib.Seq.{take-suc, set-get_or, get_or-set_other, ext_get_or}
use borrow.Author.Count.{below_none}
use borrow.Author.Tests.{eqb-true, eqb-false}
use Rattle.counting.specs.Count.{any_of, among}
use Rattle.counting.proofs.Tests.{any_append, or_false_left, or_false_right}
use Rattle.counting.proofs.Places.{from_place, zero_at}
use Rattle.std.specs.Int.{bit_at}
use Rattle.std.specs.Prelude.{Some}
use Rattle.marks.specs.Marks.{marked, unmarked, with_mark, wiped}
use Rattle.marks.proofs.Marking.{none_marked, length-unmarked, length-with_mark, marked-with_mark, marked_in_hand, mark_in_hand}
use Rattle.planner.specs.Cuts.{repeats, FirstRepeat, MarksWithin, Markable}

-- ---- marking, before step i is looked at

-- no step so far repeats one before it; they are marked, and no word has a mark but theirs
pub record MarkedTo (steps before words : List ℕ) (i : ℕ) : Type 0 where
  pub near : i ≤ length steps
  pub long : length words ≡ length before
  pub marks : (s : ℕ) → s < 64 * length words → marked words s ≡ among s (take i steps)
  pub within : MarksWithin (take i steps) words
  pub new : (j : ℕ) → j < i → repeats steps j ≡ false

zero_word : (n at : ℕ) → get_or (unmarked n) at 0 ≡ 0
unfolding unmarked
zero_word n at = zero_at n at

marked_to_start : {steps words : List ℕ} → Markable steps words → MarkedTo steps words words 0
marked_to_start {words = words} can = record {
  near = omega arith;
  long = refl;
  marks = λ s l. rw can.1 (none_marked (length words) s);
  within = λ at none. rw can.1 (zero_word (length words) at);
  new = below_none _;
}

-- a mark touches no other word
other_word : (words : List ℕ) (n at : ℕ) → eqb (n / 64) at ≡ false → get_or (with_mark words n) at 0 ≡ get_or words at 0
unfolding with_mark
other_word words n at e = get_or-set_other words (n / 64) at _ 0 (λ q. eqb-false (n / 64) at e (sym q))

module _ {steps before words : List ℕ} {i : ℕ} (w : MarkedTo steps before words i) where
  module _ (can : Markable steps before) (more : i < length steps) {step : ℕ} (is_step : step ≡ get_or steps i 0) where
    has_bit : step < 64 * length words
    has_bit = omega (arith, can.0 i more, w.long)

    stands : marked words step ≡ among (get_or steps i 0) (take i steps)
    stands = w.marks step has_bit ∙ ap (λ (s : ℕ). among s (take i steps)) is_step

    -- one that is marked is the first to repeat
    marked_to_repeat : marked words step ≡ true → FirstRepeat steps (Some i)
    marked_to_repeat e = record { within = more; here = sym stands ∙ e; earlier = w.new }

    one_more : take (i + 1) steps ≡ take i steps ++ (step ∷ [])
    one_more = rw (add-one i, is_step) (take-suc steps i 0 more)

    -- and another is marked
    marked_to_turn : marked words step ≡ false → MarkedTo steps before (with_mark words step) (i + 1)
    marked_to_turn e = record {
      near = omega arith;
      long = length-with_mark words step ∙ w.long;
      marks = λ s l.
          marked-with_mark words step s (omega (arith, length-with_mark words step))
          ∙ rw (one_more, any_append, w.marks s (omega (arith, length-with_mark words step)), or-false);
      within = λ at none.
          let so_far = any_of (λ n. eqb (n / 64) at) (take i steps) in
          let apart = rw (one_more, any_append, or-false) at none in
          other_word words step at (or_false_right so_far (eqb (step / 64) at) apart) ∙ w.within at (or_false_left so_far (eqb (step / 64) at) apart);
      new = λ j l. ⊎_elim (λ q. rw q (sym stands ∙ e)) (λ m. w.new j m) (eq-or-lt_of_le {n = j} {m = i} (omega arith));
    }

-- ---- with a word in hand: the marks are those of the words with it put back

-- at first it is one of them
pub held_start : {steps words : List ℕ} (at bits : ℕ) {there : ℕ} → Markable steps words → at ≡ there → bits ≡ get_or words there 0
    → MarkedTo steps words (set words at bits) 0
held_start {words = words} at bits can is_at is_bits = rw (is_at, is_bits, set-get_or) (marked_to_start can)

module _ {steps before : List ℕ} (words : List ℕ) (at bits : ℕ) {i : ℕ} (w : MarkedTo steps before (set words at bits) i) (can : Markable steps before)
    (more : i < length steps) {step : ℕ} (is_step : step ≡ get_or steps i 0) (its : at ≡ step / 64) where
  in_hand : marked (set words at bits) step ≡ eqb (bit_at bits (step % 64)) 1
  in_hand = marked_in_hand words at bits step its (omega (arith, has_bit w can more is_step, length-set words at bits))

  pub held_to_repeat : eqb (bit_at bits (step % 64)) 1 ≡ true → FirstRepeat steps (Some i)
  held_to_repeat e = marked_to_repeat w can more is_step (in_hand ∙ e)

  pub held_to_turn : eqb (bit_at bits (step % 64)) 1 ≡ false → MarkedTo steps before (set words at (bit_or bits (2 ^ (step % 64)))) (i + 1)
  held_to_turn e = rw (mark_in_hand words at bits step its) (marked_to_turn w can more is_step (in_hand ∙ e))

-- ---- wiping, before step i is: no word has a mark but those of the steps that are left

pub record WipedTo (steps before words : List ℕ) (i : ℕ) : Type 0 where
  pub long : length words ≡ length before
  pub within : MarksWithin (drop i steps) words

length-wiped : (words : List ℕ) (n : ℕ) → length (wiped words n) ≡ length words
unfolding wiped
length-wiped words n = length-set words (n / 64) 0

zero-set : (words : List ℕ) (at : ℕ) → ◌≡◌ {A = ℕ} (get_or (set words at 0) at 0) 0
zero-set [] at = refl
zero-set (word ∷ words) zero = refl
zero-set (word ∷ words) (suc at) = zero-set words at

-- a word is 0 where it is wiped, and where it was
wiped_word : (words : List ℕ) (n at : ℕ) → (eqb (n / 64) at ≡ false → get_or words at 0 ≡ 0) → get_or (wiped words n) at 0 ≡ 0
unfolding wiped
wiped_word words n at other = go (eqb (n / 64) at) refl
  where
    go : (b : Bool) → eqb (n / 64) at ≡ b → get_or (set words (n / 64) 0) at 0 ≡ 0
    go true e = rw (eqb-true (n / 64) at e) (zero-set words at)
    go false e = get_or-set_other words (n / 64) at 0 0 (λ q. eqb-false (n / 64) at e (sym q)) ∙ other e

module _ {steps before words : List ℕ} {i : ℕ} (w : WipedTo steps before words i) where
  -- those that are gone over are the steps
  pub wiped_to_turn : {over : List ℕ} {step : ℕ} → i < length over → step ≡ get_or over i 0 → over ≡ steps → WipedTo steps before (wiped words step) (i + 1)
  wiped_to_turn {step = step} more e same =
      let more : i < length steps = rw (← same) more in
      let e : step ≡ get_or steps i 0 = rw (← same) e in
      record {
        long = length-wiped words step ∙ w.long;
        within = λ at none. wiped_word words step at (λ other. w.within at (rw (from_place steps i more, ← e, other) none));
      }

  pub wiped_to_done : {over : List ℕ} → length over ≤ i → over ≡ steps → words ≡ unmarked (length before)
  wiped_to_done all same =
      let zeros = rw (drop_of_length-le steps {i = i} (rw (← same) all)) at w.within in
      rw (← w.long) (ext_get_or 0 words (unmarked (length words)) (sym (length-unmarked (length words))) (λ at l. zeros at refl ∙ sym (zero_word (length words) at)))
