-- A field's number, digit by digit.
use mathlib.Core.Path.{◌≡◌, refl}
use mathlib.Core.Bool.{◌&&◌}
use mathlib.Core.List.{List, [], ◌∷◌}
use mathlib.Core.Option.{none}
use Prim.Native.Nat.{ℕ, ◌+◌, ◌-◌, ◌*◌, ◌≤◌, ◌<◌}
use native.Mathlib.Numerals.{add-one}
use native.Mathlib.Omega.{arith}
use borrow.Author.Tests.{le-leb, lt-leb, eq-eqb, ne_eqb}
use lib.Dec.{leb}
use lib.ListN.{length, get_or, drop}
use lib.Seq.{drop-cons}
use Rattle.counting.specs.Count.{pick}
use Rattle.rules.specs.Sizes.{number_most}
use Rattle.rules.specs.Bytes.{value_after, number_of}

-- from place i on, the digits before it being worth n
module _ (field : List ℕ) (i n : ℕ) (h : i < length field) where
  abbrev byte : ℕ
  byte = get_or field i 0

  abbrev more : ℕ
  more = n * 10 + (byte - 48)

  value_turn : value_after n (drop i field) ≡ pick (leb 48 byte && leb byte 57 && leb more number_most) (value_after more (drop (i + 1) field)) none
  unfolding value_after
  value_turn = rw (add-one, drop-cons field i 0)

  pub value_low : byte < 48 → value_after n (drop i field) ≡ none
  value_low l = rw (value_turn, lt-leb 48 byte)

  module _ (l : 48 ≤ byte) where
    pub value_high : 57 < byte → value_after n (drop i field) ≡ none
    value_high m = rw (value_turn, le-leb 48 byte, lt-leb byte 57)

    module _ (m : byte ≤ 57) where
      pub value_over : number_most < more → value_after n (drop i field) ≡ none
      value_over o = rw (value_turn, le-leb 48 byte, le-leb byte 57, lt-leb more number_most)

      pub value_on : more ≤ number_most → value_after n (drop i field) ≡ value_after more (drop (i + 1) field)
      value_on o = rw (value_turn, le-leb 48 byte, le-leb byte 57, le-leb more number_most)

pub number_empty : (field : List ℕ) → length field ≡ 0 → number_of field ≡ none
unfolding number_of
number_empty [] e = refl
number_empty (b ∷ bs) e = absurd (omega arith)

pub number_zero : (field : List ℕ) → 1 < length field → get_or field 0 0 ≡ 48 → number_of field ≡ none
unfolding number_of
number_zero [] h e = refl
number_zero (b ∷ []) h e = absurd (omega arith)
number_zero (b ∷ c ∷ bs) h e = rw (eq-eqb b 48 e)

pub number_one : (field : List ℕ) → (length field ≡ 0 → ⊥) → length field ≤ 1 → number_of field ≡ value_after 0 field
unfolding number_of
number_one [] n h = absurd (n refl)
number_one (b ∷ []) n h = refl
number_one (b ∷ c ∷ bs) n h = absurd (omega arith)

pub number_many : (field : List ℕ) → 1 < length field → (get_or field 0 0 ≡ 48 → ⊥) → number_of field ≡ value_after 0 field
unfolding number_of
number_many [] h e = absurd (omega arith)
number_many (b ∷ []) h e = absurd (omega arith)
number_many (b ∷ c ∷ bs) h e = rw (ne_eqb b 48 e)
