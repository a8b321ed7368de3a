-- The number of the field that begins at a place of a text, digit by digit.
use mathlib.Core.Path.{◌≡◌, refl, sym, ap, ◌∙◌}
use mathlib.Core.Logic.{◌⊎◌, ⊎_elim}
use mathlib.Core.Bool.{Bool, true, false, ◌||◌}
use mathlib.Core.List.{List, [], ◌∷◌}
use mathlib.Core.Option.{none}
use Prim.Native.Nat.{ℕ, ◌+◌, ◌-◌, ◌*◌, ◌≤◌, ◌<◌}
use native.Mathlib.Decide.{dec_lt}
use native.Mathlib.Omega.{arith}
use borrow.Author.Tests.{ne_eqb}
use lib.Dec.{eqb}
use lib.ListN.{length, get_or, drop, drop_of_length-le}
use Rattle.counting.specs.Count.{pick}
use Rattle.counting.proofs.Places.{from_place}
use Rattle.rules.specs.Sizes.{number_most}
use Rattle.rules.specs.Bytes.{tab, line_feed, value_after, number_of}
use Rattle.std.proofs.Common.{Ok, Err}
use Rattle.lines.specs.declared.reading.Absent.TheVariants.{NoNumber}
use Rattle.lines.specs.Behind.{ends_here, field_rest, field_at}
use Rattle.lines.proofs.Digits.{value_low, value_high, value_over, value_on, number_empty, number_zero, number_one, number_many}

-- ---- where a field ends

ends_past : (text : List ℕ) (at : ℕ) → length text ≤ at → ends_here (drop at text) ≡ true
ends_past text at h = rw (drop_of_length-le text h)

ends_byte : (text : List ℕ) (at : ℕ) → at < length text → ends_here (drop at text) ≡ (eqb (get_or text at 0) tab || eqb (get_or text at 0) line_feed)
ends_byte text at h = rw (from_place text at h)

field-ended : (bs : List ℕ) → ends_here bs ≡ true → field_rest bs ≡ []
unfolding field_rest
field-ended [] e = refl
field-ended (b ∷ bs) e = rw e

module _ (text : List ℕ) (i : ℕ) where
  abbrev rest : List ℕ
  rest = field_rest (drop i text)

  abbrev behind : List ℕ
  behind = field_rest (drop (i + 1) text)

  field_open : ends_here (drop i text) ≡ false → i < length text → rest ≡ get_or text i 0 ∷ behind
  unfolding field_rest
  field_open e h = let f = rw (from_place text i h) at e in rw (from_place text i h, f)

  open_within : ends_here (drop i text) ≡ false → i < length text
  open_within e = elim (dec_lt i (length text)) [
    | yes h ↦ h
    | no h ↦ absurd (let w = sym (ends_past text i (omega arith)) ∙ e in cc)
  ]

  -- a digit does not end it
  digit_open : i < length text → 48 ≤ get_or text i 0 → rest ≡ get_or text i 0 ∷ behind
  digit_open h d = field_open (ends_byte text i h ∙ rw (ne_eqb (get_or text i 0) tab (λ e. omega arith), ne_eqb (get_or text i 0) line_feed (λ e. omega arith))) h

-- its first byte
first_byte : (text : List ℕ) (begin : ℕ) → 0 < length (field_rest (drop begin text)) → get_or (field_rest (drop begin text)) 0 0 ≡ get_or text begin 0
first_byte text begin l = go (ends_here (drop begin text)) refl
  where
    go : (t : Bool) → ends_here (drop begin text) ≡ t → get_or (field_rest (drop begin text)) 0 0 ≡ get_or text begin 0
    go true e = absurd (omega (arith, l, ap length (field-ended (drop begin text) e)))
    go false e = rw (field_open text begin e (open_within text begin e))

-- no value, no number
valueless : (field : List ℕ) → value_after 0 field ≡ none → number_of field ≡ none
unfolding number_of
valueless [] e = refl
valueless (b ∷ []) e = e
valueless (b ∷ c ∷ bs) e = go (eqb b 48) e
  where
    go : (t : Bool) → value_after 0 (b ∷ c ∷ bs) ≡ none → pick t none (value_after 0 (b ∷ c ∷ bs)) ≡ none
    go true e = refl
    go false e = e

-- ---- digit by digit

-- the digits from the field's begin up to place i are worth this value
pub record Digits (text : List ℕ) (begin value i : ℕ) : Type 0 where
  pub small : value ≤ number_most
  pub from : begin ≤ i
  pub ahead : begin + length (field_rest (drop begin text)) ≡ i + length (field_rest (drop i text))
  pub worth : value_after 0 (field_rest (drop begin text)) ≡ value_after value (field_rest (drop i text))

digits-start : (text : List ℕ) (begin : ℕ) → Digits text begin 0 begin
digits-start text begin = record { small = omega arith; from = omega arith; ahead = refl; worth = refl }

module _ {text : List ℕ} {begin value i : ℕ} (r : Digits text begin value i) where
  abbrev byte : ℕ
  byte = get_or text i 0

  abbrev more : ℕ
  more = value * 10 + (byte - 48)

  no_number : value_after value (field_rest (drop i text)) ≡ none → field_at text begin ≡ Err NoNumber
  unfolding field_at
  no_number e = rw (valueless (field_rest (drop begin text)) (r.worth ∙ e))

  -- a byte below the digits that does not end the field
  pub digits_low : ends_here (drop i text) ≡ false → (i < length text → byte < 48) → field_at text begin ≡ Err NoNumber
  digits_low e l =
      let h = open_within text i e in
      no_number (rw (field_open text i e h) (value_low (byte ∷ field_rest (drop (i + 1) text)) 0 value (omega arith) (l h)))

  module _ (h : i < length text) (l : 48 ≤ byte) where
    abbrev here : List ℕ
    here = byte ∷ field_rest (drop (i + 1) text)

    pub digits_high : 57 < byte → field_at text begin ≡ Err NoNumber
    digits_high m = no_number (rw (digit_open text i h l) (value_high here 0 value (omega arith) l m))

    module _ (m : byte ≤ 57) where
      pub digits_over : number_most < more → field_at text begin ≡ Err NoNumber
      digits_over o = no_number (rw (digit_open text i h l) (value_over here 0 value (omega arith) l m o))

      pub digits_turn : {next : ℕ} → next ≡ more → next ≤ number_most → Digits text begin next (i + 1)
      digits_turn e o = rw e (record {
        small = omega arith;
        from = let f = r.from in omega arith;
        ahead = r.ahead ∙ rw (digit_open text i h l) (omega arith);
        worth = r.worth ∙ rw (digit_open text i h l) (value_on here 0 value (omega arith) l m (omega arith));
      })

  -- the field ends at this place
  module _ (e : ends_here (drop i text) ≡ true) where
    abbrev whole : List ℕ
    whole = field_rest (drop begin text)

    whole_length : length whole ≡ i - begin
    whole_length = let f = r.from in omega (arith, r.ahead, ap length (field-ended (drop i text) e))

    digits_none : i ≡ begin → field_at text begin ≡ Err NoNumber
    unfolding field_at
    digits_none s = rw (number_empty whole (omega (arith, whole_length)))

    pub digits-zero : 1 < i - begin → get_or text begin 0 ≡ 48 → field_at text begin ≡ Err NoNumber
    unfolding field_at
    digits-zero l z = rw (number_zero whole (omega (arith, whole_length)) (first_byte text begin (omega (arith, whole_length)) ∙ z))

    pub digits_done : (i ≡ begin → ⊥) → (i - begin ≤ 1) ⊎ (get_or text begin 0 ≡ 48 → ⊥) → field_at text begin ≡ Ok (record { value = value; end = i })
    unfolding field_at value_after
    digits_done n z =
        let some : (length whole ≡ 0 → ⊥) = (λ s. n (omega (arith, whole_length, r.from, s))) in
        let stop : begin + length whole ≡ i = omega (arith, whole_length, r.from) in
        let plain : number_of whole ≡ value_after 0 whole = ⊎_elim
        (λ s. number_one whole some (omega (arith, whole_length)))
        (λ k. elim (dec_lt 1 (length whole)) [
          | yes m ↦ number_many whole m (λ q. k (sym (first_byte text begin (omega arith)) ∙ q))
          | no m ↦ number_one whole some (omega arith)
        ])
        z in
        rw (plain, stop, r.worth, field-ended (drop i text) e)

-- ---- its first byte

module _ (text : List ℕ) (begin : ℕ) where
  abbrev start : Digits text begin 0 begin
  start = digits-start text begin

  pub no_first : length text ≤ begin → field_at text begin ≡ Err NoNumber
  no_first h = digits_none start (ends_past text begin h) refl

  pub first_low : get_or text begin 0 < 48 → field_at text begin ≡ Err NoNumber
  first_low l = go (ends_here (drop begin text)) refl
    where
      go : (t : Bool) → ends_here (drop begin text) ≡ t → field_at text begin ≡ Err NoNumber
      go true e = digits_none start e refl
      go false e = digits_low start e (λ h. l)

  module _ (h : begin < length text) (l : 48 ≤ get_or text begin 0) where
    pub first_high : 57 < get_or text begin 0 → field_at text begin ≡ Err NoNumber
    first_high m = digits_high start h l m

    pub first_digit : get_or text begin 0 ≤ 57 → {value : ℕ} → value ≡ get_or text begin 0 - 48 → Digits text begin value (begin + 1)
    first_digit m e = digits_turn start h l m (omega arith) (omega arith)

pub ruleset digit_steps = (no_first, first_low, first_high, digits_low, digits_high, digits_over, digits-zero, digits_done)
