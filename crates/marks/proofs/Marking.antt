-- Laws of marks: which numbers are marked once one is marked, or the starts of some steps, and where the first number without a mark is.
use mathlib.Core.Path.{◌≡◌, refl, sym, ap, ◌∙◌}
use mathlib.Core.Bool.{Bool, true, false, ◌||◌, or-false, or_assoc}
use mathlib.Core.List.{List, [], ◌∷◌}
use Prim.Native.Nat.{ℕ, zero, suc, ◌+◌, ◌-◌, ◌*◌, ◌/◌, ◌%◌, ◌^◌, ◌≤◌, ◌<◌, max}
use native.Mathlib.Decide.{dec_lt}
use native.Mathlib.Omega.{arith}
use lib.Bits.{bit_or}
use lib.Dec.{eqb, ltb}
use lib.ListN.{length, get_or, set, take, drop, length-set, length-take, length-replicate, get_or-eq_default}
use lib.Seq.{get_or-take, set_out, set-get_or, get_or-set_same, get_or-set_other}
use borrow.Author.Tests.{lt-ltb, le-ltb, ltb-true, ltb-false, eqb-true, eqb-false, eq-eqb, ne_eqb}
use Rattle.counting.specs.Count.{bit, pick, among}
use Rattle.counting.proofs.Tests.{same_of_iff}
use Rattle.counting.proofs.Places.{from_place, zero_at}
use Rattle.std.specs.Int.{w64, bit_at, trailing_ones}
use Rattle.std.proofs.lemmas.Nat.Bits.{bit_at-lt, bit_at-zero, bit_at-pow_same, bit_at-pow_other, bit_at_or, bit_at_ones, bit_at-trailing_ones}
use Rattle.marks.specs.Marks.{marked, unmarked, with_mark, with_start, with_starts, numbers_most, FirstUnmarked}

pub same_test : (a b c d : ℕ) → (a ≡ b → c ≡ d) → (c ≡ d → a ≡ b) → eqb a b ≡ eqb c d
same_test a b c d f g = same_of_iff _ _ (λ e. eq-eqb c d (f (eqb-true a b e))) (λ e. eq-eqb a b (g (eqb-true c d e)))

-- of two that are stored at one place the second stays
set-again : (xs : List ℕ) (i x y : ℕ) → set (set xs i x) i y ≡ set xs i y
set-again [] i x y = refl
set-again (z ∷ zs) zero x y = refl
set-again (z ∷ zs) (suc i) x y = ap (λ (rest : List ℕ). z ∷ rest) (set-again zs i x y)

-- ---- no mark

unmarked_in_zero : (words : List ℕ) (n : ℕ) → get_or words (n / 64) 0 ≡ 0 → marked words n ≡ false
unfolding marked
unmarked_in_zero words n e = rw (e, bit_at-zero (n % 64))

pub none_marked : (n s : ℕ) → marked (unmarked n) s ≡ false
unfolding unmarked
none_marked n s = unmarked_in_zero (unmarked n) s (zero_at n (s / 64))

pub none_beyond : (words : List ℕ) (n : ℕ) → length words ≤ n / 64 → marked words n ≡ false
none_beyond words n past = unmarked_in_zero words n (get_or-eq_default words 0 past)

pub length-unmarked : (n : ℕ) → length (unmarked n) ≡ n
unfolding unmarked
length-unmarked n = length-replicate {A = ℕ} n 0

-- ---- one mark more

pub length-with_mark : (words : List ℕ) (n : ℕ) → length (with_mark words n) ≡ length words
unfolding with_mark
length-with_mark words n = length-set words (n / 64) _

-- the bits of a power of two
bit_at_power : (b i : ℕ) → bit_at (2 ^ b) i ≡ bit (eqb i b)
bit_at_power b i = go (eqb i b) refl
  where
    go : (same : Bool) → eqb i b ≡ same → bit_at (2 ^ b) i ≡ bit same
    go true e = rw (eqb-true i b e) (bit_at-pow_same b)
    go false e = bit_at-pow_other b i (eqb-false i b e)

either_bit : (d : ℕ) (b : Bool) → d < 2 → eqb (max d (bit b)) 1 ≡ (eqb d 1 || b)
either_bit zero true h = refl
either_bit zero false h = refl
either_bit (suc zero) true h = refl
either_bit (suc zero) false h = refl
either_bit (suc (suc d)) b h = absurd (omega (arith, h))

pub marked-with_mark : (words : List ℕ) (n s : ℕ) → s < 64 * length words → marked (with_mark words n) s ≡ (marked words s || eqb n s)
unfolding marked with_mark
marked-with_mark words n s h = go (eqb (s / 64) (n / 64)) refl
  where
    word : ℕ
    word = bit_or (get_or words (n / 64) 0) (2 ^ (n % 64))

    same_bit : s / 64 ≡ n / 64 → eqb (s % 64) (n % 64) ≡ eqb n s
    same_bit q = same_test (s % 64) (n % 64) n s (λ e. omega arith) (λ e. omega arith)

    go : (b : Bool) → eqb (s / 64) (n / 64) ≡ b
        → eqb (bit_at (get_or (set words (n / 64) word) (s / 64) 0) (s % 64)) 1 ≡ (eqb (bit_at (get_or words (s / 64) 0) (s % 64)) 1 || eqb n s)
    go true e =
        let q : s / 64 ≡ n / 64 = eqb-true _ _ e in
        let old = get_or words (n / 64) 0 in
        rw (q, get_or-set_same words (n / 64) word 0 (omega arith), bit_at_or old (2 ^ (n % 64)) (s % 64), bit_at_power (n % 64) (s % 64), same_bit q)
        (either_bit (bit_at old (s % 64)) (eqb n s) (bit_at-lt old (s % 64)))
    go false e =
        let q : s / 64 ≡ n / 64 → ⊥ = eqb-false _ _ e in
        rw (get_or-set_other words (n / 64) (s / 64) word 0 q, ne_eqb n s (λ p. q (ap (λ (x : ℕ). x / 64) (sym p))), or-false)

-- ---- a word in hand

-- one that was just taken may be put back
pub word_taken : (words : List ℕ) (n : ℕ) {at bits : ℕ} → at ≡ n / 64 → bits ≡ get_or words (n / 64) 0 → set words at bits ≡ words
word_taken words n is_at is_bits = rw (is_at, is_bits) (set-get_or words (n / 64) 0)

module _ (words : List ℕ) (at bits : ℕ) where
  module _ (there : ℕ) where
    -- with the word in hand put back the words are the same before and after
    pub word_changed : {words' : List ℕ} {at' bits' : ℕ} → at' ≡ there → bits' ≡ pick (eqb at there) bits (get_or words there 0) → words' ≡ pick (eqb at there) words (set words at bits)
        → set words' at' bits' ≡ set words at bits
    word_changed is_at is_bits is_words = rw (is_at, is_bits, is_words) (go (eqb at there) refl)
      where
        go : (b : Bool) → eqb at there ≡ b → set (pick b words (set words at bits)) there (pick b bits (get_or words there 0)) ≡ set words at bits
        go true e = rw (eqb-true at there e)
        go false e =
            let same = get_or-set_other words at there bits 0 (λ q. eqb-false at there e (sym q)) in
            ap (set (set words at bits) there) (sym same) ∙ set-get_or (set words at bits) there 0

  -- a number is marked in its word as it is in the words with that put back
  module _ (n : ℕ) (its : at ≡ n / 64) where
    back_at_place : n < 64 * length words → get_or (set words at bits) (n / 64) 0 ≡ bits
    back_at_place within = rw (← its) (get_or-set_same words at bits 0 (omega arith))

    pub marked_in_hand : n < 64 * length words → marked (set words at bits) n ≡ eqb (bit_at bits (n % 64)) 1
    unfolding marked
    marked_in_hand within = rw (back_at_place within)

    pub mark_in_hand : set words at (bit_or bits (2 ^ (n % 64))) ≡ with_mark (set words at bits) n
    unfolding with_mark
    mark_in_hand = elim (dec_lt at (length words)) [
      | yes l ↦ rw (back_at_place (omega arith), ← its, set-again words at)
      | no m ↦ (
          let out : length words ≤ at = omega arith in
          set_out words at _ out ∙ sym (ap (λ (ws : List ℕ). set ws (n / 64) (bit_or (get_or ws (n / 64) 0) (2 ^ (n % 64)))) (set_out words at bits out) ∙ set_out words (n / 64) _ (omega arith))
          )
    ]

-- ---- the starts of some steps

module _ (offset step : ℕ) (words : List ℕ) where
  pub start-marked : offset ≤ step → with_mark words (step - offset) ≡ with_start offset step words
  unfolding with_start
  start-marked h = rw (le-ltb step offset h)

  pub no_start : step < offset → words ≡ with_start offset step words
  unfolding with_start
  no_start h = rw (lt-ltb step offset h)

  length-with_start : length (with_start offset step words) ≡ length words
  length-with_start = go (ltb step offset) refl
    where
      go : (b : Bool) → ltb step offset ≡ b → length (with_start offset step words) ≡ length words
      go true e = rw (← no_start (ltb-true step offset e))
      go false e = rw (← start-marked (ltb-false step offset e)) (length-with_mark words (step - offset))

  marked-with_start : (s : ℕ) → s < 64 * length words → marked (with_start offset step words) s ≡ (marked words s || eqb step (s + offset))
  marked-with_start s h = go (ltb step offset) refl
    where
      same_start : offset ≤ step → eqb (step - offset) s ≡ eqb step (s + offset)
      same_start l = same_test (step - offset) s step (s + offset) (λ e. omega arith) (λ e. omega arith)

      go : (b : Bool) → ltb step offset ≡ b → marked (with_start offset step words) s ≡ (marked words s || eqb step (s + offset))
      go true e =
          let l = ltb-true step offset e in
          rw (← no_start l, ne_eqb step (s + offset) (λ p. omega (arith, l, p)), or-false)
      go false e =
          let l = ltb-false step offset e in
          rw (← start-marked l, marked-with_mark words (step - offset) s h, same_start l)

-- a start is marked in its word, once that is in hand
pub start_in_hand : (offset step : ℕ) (words : List ℕ) (at bits : ℕ) {words' : List ℕ} {at' bits' : ℕ} → offset ≤ step → at' ≡ (step - offset) / 64
    → bits' ≡ pick (eqb at ((step - offset) / 64)) bits (get_or words ((step - offset) / 64) 0) → words' ≡ pick (eqb at ((step - offset) / 64)) words (set words at bits)
    → set words' at' (bit_or bits' (2 ^ ((step - offset) % 64))) ≡ with_start offset step (set words at bits)
start_in_hand offset step words at bits {words'} {at'} {bits'} h is_at is_bits is_words =
    mark_in_hand words' at' bits' (step - offset) is_at
    ∙ rw (word_changed words at bits ((step - offset) / 64) is_at is_bits is_words) (start-marked offset step (set words at bits) h)

pub length-with_starts : (offset : ℕ) (steps words : List ℕ) → length (with_starts offset steps words) ≡ length words
unfolding with_starts
length-with_starts offset [] words = refl
length-with_starts offset (step ∷ steps) words = length-with_starts offset steps (with_start offset step words) ∙ length-with_start offset step words

pub marked-with_starts : (offset : ℕ) (steps words : List ℕ) (s : ℕ) → s < 64 * length words
    → marked (with_starts offset steps words) s ≡ (marked words s || among (s + offset) steps)
unfolding with_starts
marked-with_starts offset [] words s h = sym (or-false (marked words s))
marked-with_starts offset (step ∷ steps) words s h =
    marked-with_starts offset steps (with_start offset step words) s (omega (arith, length-with_start offset step words))
    ∙ rw (marked-with_start offset step words s h, or_assoc)

-- the starts of the steps from a place on: that of the first, and then those of the rest
pub one-more-start : (offset : ℕ) (steps words marked_words : List ℕ) (i step : ℕ) → i < length steps → step ≡ get_or steps i 0
    → marked_words ≡ with_start offset step words → with_starts offset (drop i steps) words ≡ with_starts offset (drop (i + 1) steps) marked_words
unfolding with_starts
one-more-start offset steps words marked_words i step l is_step is_marked = rw (from_place steps i l, is_marked, is_step)

-- ---- the first number without a mark

abbrev pub AllMarked : List ℕ → ℕ → Type 0
AllMarked words n = (t : ℕ) → t < n → marked words t ≡ true

marked_in_word : (words : List ℕ) (at i : ℕ) → i < 64 → marked words (64 * at + i) ≡ eqb (bit_at (get_or words at 0) i) 1
unfolding marked
marked_in_word words at i l =
    let word : (64 * at + i) / 64 ≡ at = omega arith in
    let place : (64 * at + i) % 64 ≡ i = omega arith in
    rw (word, place)

-- one that is looked at, among the first few, is the one of all words there
pub looked_at : (words : List ℕ) (few at : ℕ) → at < length (take few words) → get_or (take few words) at 0 ≡ get_or words at 0
looked_at words few at l = get_or-take few words at 0 (omega (arith, length-take few words))

module _ (words : List ℕ) (at : ℕ) (all : AllMarked words (64 * at)) where
  all_marked_to : (n : ℕ) → n ≤ 64 → ((i : ℕ) → i < n → bit_at (get_or words at 0) i ≡ 1) → AllMarked words (64 * at + n)
  all_marked_to n m h t l = go (ltb t (64 * at)) refl
    where
      go : (b : Bool) → ltb t (64 * at) ≡ b → marked words t ≡ true
      go true e = all t (ltb-true t (64 * at) e)
      go false e =
          let from = ltb-false t (64 * at) e in
          let place : 64 * at + t % 64 ≡ t = omega arith in
          ap (marked words) (sym place) ∙ marked_in_word words at (t % 64) (omega arith) ∙ eq-eqb _ 1 (h (t % 64) (omega arith))

  -- it is not in a full word
  pub full_word : get_or words at 0 ≡ 2 ^ 64 - 1 → AllMarked words (64 * (at + 1))
  full_word full t l = all_marked_to 64 (omega arith) (λ i m. rw full (bit_at_ones 64 i m)) t (omega arith)

  -- in one that is not full it is at the lowest bit that is not set
  pub first_in_word : 64 * at < numbers_most → get_or words at 0 + 1 < 2 ^ 64 → FirstUnmarked words (64 * at + trailing_ones w64 (get_or words at 0))
  first_in_word few short =
      let (within, unset, below) = bit_at-trailing_ones w64 (get_or words at 0) short in
      record {
        below = omega (arith, within);
        free = λ l. marked_in_word words at _ within ∙ rw unset;
        least = all_marked_to _ (omega (arith, within)) below;
      }

  -- and where no word is left it is the next number, or the bound
  pub first_past_words : 64 * at ≤ numbers_most → (64 * at < numbers_most → length words ≤ at) → FirstUnmarked words (64 * at)
  first_past_words few past =
      record {
        below = few;
        free = λ l. none_beyond words (64 * at) (omega (arith, past l));
        least = all;
      }
