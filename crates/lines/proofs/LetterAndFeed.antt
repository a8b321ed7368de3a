-- A line at a place of a text, from its letter to its line feed: the fields behind the letter, and what stands where a field ends.
use mathlib.Core.Path.{◌≡◌, refl, sym, ◌∙◌}
use mathlib.Core.Logic.{◌⊎◌, inl, inr}
use mathlib.Core.Bool.{Bool, true, false}
use mathlib.Core.List.{List, [], ◌∷◌, cons≢nil}
use mathlib.Core.Option.{Option, none, some}
use Prim.Native.Nat.{ℕ, ◌+◌, ◌≤◌, ◌<◌}
use native.Mathlib.Decide.{dec_lt, ℕ_discrete}
use native.Mathlib.Omega.{arith}
use borrow.Author.Tests.{eqb-true, eq-eqb}
use lib.Dec.{eqb}
use lib.ListN.{length, get_or, drop, drop_of_length-le}
use lib.Seq.{drop-drop}
use Rattle.counting.specs.Count.{pick}
use Rattle.counting.proofs.Places.{some_same, none_not_some, from_place}
use Rattle.rules.specs.Bytes.{tab, line_feed, number_of, cons_onto, numbers_of, split, begins}
use Rattle.std.proofs.Common.{Option as Answer, None, Some, Result, Ok, Err}
use Rattle.std.specs.Result.{result_ok}
use Rattle.lines.specs.declared.reading.Number.{Number}
use Rattle.lines.specs.declared.reading.Absent.{Absent}
use Rattle.lines.specs.declared.reading.Absent.TheVariants.{NoNumber, NoField}
use Rattle.lines.specs.Pieces.{before, pieces_after}
use Rattle.lines.specs.Behind.{letter_of, line_rest, line_end, fields_behind, first_field, field_rest}
use Rattle.lines.proofs.BehindPlaces.{split_rest, letter_here, NoneBehind, behind_end, behind_feed, behind-field, end_on, unsaid_behind, none_behind}

-- ---- the letter and the fields behind it

-- Lines are said by their first field, if that is one byte, and by the numbers behind it; a byte that parts fields or lines says nothing,
-- nor does one with no number behind it.
pub record ByLetter {A : Type 0} (nothing : A) (of_fields : List (List ℕ) → A) (of_letter : ℕ → Option (List ℕ) → A) : Type 0 where
  pub empty : (fs : List (List ℕ)) → of_fields ([] ∷ fs) ≡ nothing
  pub one : (b : ℕ) (fs : List (List ℕ)) → of_fields ((b ∷ []) ∷ fs) ≡ of_letter b (numbers_of fs)
  pub longer : (b c : ℕ) (bs : List ℕ) (fs : List (List ℕ)) → of_fields ((b ∷ c ∷ bs) ∷ fs) ≡ nothing
  pub alone : (b : ℕ) → of_letter b (some []) ≡ nothing
  pub part : (b : ℕ) (o : Option (List ℕ)) → b ≤ line_feed → of_letter b o ≡ nothing

-- what is said by a letter, if there is one, and by the numbers behind it
abbrev pub lettered : {A : Type 0} → A → (ℕ → Option (List ℕ) → A) → Answer ℕ → Option (List ℕ) → A
lettered nothing of_letter None o = nothing
lettered nothing of_letter (Some b) o = of_letter b o

module _ {A : Type 0} {nothing : A} {of_fields : List (List ℕ) → A} {of_letter : ℕ → Option (List ℕ) → A} (l : ByLetter nothing of_fields of_letter) where
  -- behind a first byte
  abbrev behind_first : List ℕ → Option (List ℕ)
  behind_first bs = numbers_of (pieces_after tab (line_rest (drop 1 bs)))

  -- the first field is one byte in front of a tab, or there is no letter
  abbrev First : List ℕ → Type 0
  First bs = of_fields (field_rest bs ∷ pieces_after tab (line_rest (drop (length (field_rest bs)) bs))) ≡ lettered nothing of_letter (letter_of bs) (behind_first bs)

  part_letter : (b : ℕ) (t : Bool) (o : Option (List ℕ)) → b ≤ line_feed → lettered nothing of_letter (pick t (Some b) None) o ≡ nothing
  part_letter b true o h = l.part b o h
  part_letter b false o h = refl

  module _ (bs : List ℕ) where
    first_empty : field_rest bs ≡ [] → lettered nothing of_letter (letter_of bs) (behind_first bs) ≡ nothing → First bs
    first_empty e w = rw e (l.empty _ ∙ sym w)

    first_byte : (b : ℕ) → field_rest bs ≡ b ∷ [] → of_letter b (behind_first bs) ≡ lettered nothing of_letter (letter_of bs) (behind_first bs) → First bs
    first_byte b e w = rw e (l.one b _ ∙ w)

    first_longer : (b c : ℕ) (ds : List ℕ) → field_rest bs ≡ b ∷ c ∷ ds → lettered nothing of_letter (letter_of bs) (behind_first bs) ≡ nothing → First bs
    first_longer b c ds e w = rw e (l.longer b c ds _ ∙ sym w)

  by_first : (bs : List ℕ) → First bs
  unfolding field_rest line_rest before numbers_of
  by_first [] = first_empty [] refl refl
  by_first (b ∷ []) = go (eqb b tab) refl (eqb b line_feed) refl
    where
      go : (t : Bool) → eqb b tab ≡ t → (f : Bool) → eqb b line_feed ≡ f → First (b ∷ [])
      go true p f q = first_empty (b ∷ []) (rw p) refl
      go false p true q = first_empty (b ∷ []) (rw (p, q)) refl
      go false p false q = first_byte (b ∷ []) b (rw (p, q)) (l.alone b)
  by_first (b ∷ c ∷ bs) = go (eqb b tab) refl (eqb b line_feed) refl (eqb c tab) refl (eqb c line_feed) refl
    where
      go : (t : Bool) → eqb b tab ≡ t → (f : Bool) → eqb b line_feed ≡ f → (u : Bool) → eqb c tab ≡ u → (g : Bool) → eqb c line_feed ≡ g → First (b ∷ c ∷ bs)
      go true p f q u r g s = first_empty (b ∷ c ∷ bs) (rw p) (part_letter b (eqb c tab) (behind_first (b ∷ c ∷ bs)) (omega (arith, eqb-true b tab p)))
      go false p true q u r g s = first_empty (b ∷ c ∷ bs) (rw (p, q)) (part_letter b (eqb c tab) (behind_first (b ∷ c ∷ bs)) (omega (arith, eqb-true b line_feed q)))
      go false p false q true r g s = first_byte (b ∷ c ∷ bs) b (rw (p, q, r)) (rw r)
      go false p false q false r true s = first_byte (b ∷ c ∷ bs) b (rw (p, q, r, s)) (rw (r, s) (l.alone b))
      go false p false q false r false s = first_longer (b ∷ c ∷ bs) b c (field_rest bs) (rw (p, q, r, s)) (rw r)

  pub line_letter : (text : List ℕ) (at : ℕ)
      → of_fields (split tab (line_rest (drop at text))) ≡ lettered nothing of_letter (letter_of (drop at text)) (numbers_of (fields_behind text (at + 1)))
  unfolding fields_behind
  line_letter text at = rw (split_rest (drop at text)) (by_first (drop at text) ∙ rw (drop-drop 1 at text))

-- a letter is no line feed: the line goes on behind it
pub letter_open : (text : List ℕ) (at : ℕ) {b : ℕ} → letter_of (drop at text) ≡ Some b → line_feed < b → (at < length text) × (line_end text at ≡ line_end text (at + 1))
letter_open text at e l =
    let (h, b) = letter_here text at e in
    (h, end_on text at h (λ f. omega arith))

-- ---- a byte at a place

module _ (byte : ℕ) (text : List ℕ) (at : ℕ) where
  begins-here : at < length text → begins byte (drop at text) ≡ eqb (get_or text at 0) byte
  begins-here h = rw (from_place text at h)

  begins_past : length text ≤ at → begins byte (drop at text) ≡ false
  begins_past h = rw (drop_of_length-le text h)

  pub begun : begins byte (drop at text) ≡ true → (at < length text) × (get_or text at 0 ≡ byte)
  begun e = elim (dec_lt at (length text)) [
    | yes h ↦ (h, eqb-true _ _ (sym (begins-here h) ∙ e))
    | no h ↦ absurd (let w = sym (begins_past (omega arith)) ∙ e in cc)
  ]

-- ---- where a field ends

-- one field or more say a number or more, if they say any
some_field : {fields fs : List (List ℕ)} {f : List ℕ} → fields ≡ f ∷ fs → numbers_of fields ≡ some [] → ⊥
unfolding numbers_of
some_field {fields} {fs} {f} e n = go (number_of f) (numbers_of fs) (rw e at n)
  where
    go : (a : Option ℕ) (o : Option (List ℕ)) → cons_onto a o ≡ some [] → ⊥
    go none o e = none_not_some e
    go (some n) none e = none_not_some e
    go (some n) (some ns) e = cons≢nil (some_same e)

module _ (text : List ℕ) (at : ℕ) where
  abbrev numbers : Option (List ℕ)
  numbers = numbers_of (fields_behind text at)

  -- a line feed ends the line
  pub fed : begins line_feed (drop at text) ≡ true → NoneBehind text at
  fed e = let (h, f) = begun line_feed text at e in behind_feed text at h f

  -- with none the text ends there, or there is another field
  pub unfed : begins line_feed (drop at text) ≡ false → (length text ≤ line_end text at) ⊎ (numbers ≡ some [] → ⊥)
  unfed e = elim (dec_lt at (length text)) [
    | no h ↦ inl (omega (arith, (behind_end text at (omega arith)).ends))
    | yes h ↦ elim (ℕ_discrete (get_or text at 0) line_feed) [
      | yes f ↦ absurd (let w = sym (begins-here line_feed text at h ∙ eq-eqb _ _ f) ∙ e in cc)
      | no n ↦ inr (some_field (behind-field text at h n))
    ]
  ]

  -- the field behind this place, if there is one, says no number
  abbrev pub Unsaid : Type 0
  Unsaid = (n : Number) → first_field (fields_behind text at) at ≡ Ok n → ⊥

  pub unsaid_ok : {r : Result Number Absent} → r ≡ first_field (fields_behind text at) at → None ≡ result_ok r → Unsaid
  unsaid_ok {r} e o n f = let w : r ≡ Ok n = e ∙ f in let z = rw w at o in cc

  pub unsaid : Unsaid → (numbers ≡ none) ⊎ (numbers ≡ some [])
  unfolding numbers_of
  unsaid n = go (first_field (fields_behind text at) at) refl
    where
      go : (f : Result Number Absent) → first_field (fields_behind text at) at ≡ f → (numbers_of (fields_behind text at) ≡ none) ⊎ (numbers_of (fields_behind text at) ≡ some [])
      go (Ok said) e = absurd (n said e)
      go (Err NoNumber) e = inl (unsaid_behind text at e).0
      go (Err NoField) e = inr (rw (none_behind text at e).fields)
