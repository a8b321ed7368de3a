-- What stands behind a place of a text: a field ends at a tab, a line feed or the end, and cutting the text there is cutting it at line
-- feeds and then each line at tabs.
use mathlib.Core.Path.{◌≡◌, refl, sym, ap, ◌∙◌}
use mathlib.Core.Logic.{◌⊎◌, inl, inr, ⊎_elim}
use mathlib.Core.Bool.{Bool, true, false, ◌||◌}
use mathlib.Core.List.{List, [], ◌∷◌}
use mathlib.Core.Option.{Option, none, some}
use Prim.Native.Nat.{ℕ, suc, ◌+◌, ◌≤◌, ◌<◌}
use native.Mathlib.Nat.{zero-add}
use native.Mathlib.Decide.{dec_lt, ℕ_discrete}
use native.Mathlib.Omega.{arith}
use borrow.Author.Tests.{eq-eqb, ne_eqb}
use lib.Dec.{eqb}
use lib.ListN.{length, get_or, drop, length-drop, drop_of_length-le}
use lib.Seq.{length-take-le, drop-drop}
use Rattle.counting.specs.Count.{pick}
use Rattle.counting.proofs.Places.{from_place}
use Rattle.rules.specs.Bytes.{tab, line_feed, number_of, cons_onto, numbers_of, split}
use Rattle.std.proofs.Common.{None, Some, Result, Ok, Err}
use Rattle.std.specs.Result.{result_ok}
use Rattle.lines.specs.declared.reading.Number.{Number}
use Rattle.lines.specs.declared.reading.Absent.{Absent}
use Rattle.lines.specs.declared.reading.Absent.TheVariants.{NoNumber, NoField}
use Rattle.lines.specs.Pieces.{before, pieces_after}
use Rattle.lines.specs.Behind.{letter_of, line_rest, line_end, fields_behind, said_up_to, first_field, field_rest, field_at, leading}
use Rattle.lines.proofs.Cuts.{before-le, split_cut}

-- ---- cut at tabs and line feeds

-- the first field of a line, and those behind it
abbrev pub SplitRest : List ℕ → Type 0
SplitRest bs = split tab (line_rest bs) ≡ field_rest bs ∷ pieces_after tab (line_rest (drop (length (field_rest bs)) bs))

closed_split : (bs : List ℕ) → field_rest bs ≡ [] → split tab (line_rest bs) ≡ [] ∷ pieces_after tab (line_rest bs) → SplitRest bs
closed_split bs e s = rw e s

pub split_rest : (bs : List ℕ) → SplitRest bs
unfolding line_rest before field_rest split
split_rest [] = refl
split_rest (b ∷ bs) = go (eqb b tab) refl (eqb b line_feed) refl (split_rest bs)
  where
    go : (t : Bool) → eqb b tab ≡ t → (f : Bool) → eqb b line_feed ≡ f → SplitRest bs → SplitRest (b ∷ bs)
    go true p true q e = closed_split (b ∷ bs) (rw p) (rw q)
    go true p false q e = closed_split (b ∷ bs) (rw p) (rw (q, p))
    go false p true q e = closed_split (b ∷ bs) (rw (p, q)) (rw q)
    go false p false q e = rw (p, q, e, p)

-- its line feed stands behind the field
abbrev BeforeRest : List ℕ → Type 0
BeforeRest bs = before line_feed bs ≡ length (field_rest bs) + before line_feed (drop (length (field_rest bs)) bs)

closed_before : (bs : List ℕ) → field_rest bs ≡ [] → BeforeRest bs
closed_before bs e = rw e (sym (zero-add _))

before-rest : (bs : List ℕ) → BeforeRest bs
unfolding before field_rest
before-rest [] = refl
before-rest (b ∷ bs) = go (eqb b tab) refl (eqb b line_feed) refl (before-rest bs)
  where
    go : (t : Bool) → eqb b tab ≡ t → (f : Bool) → eqb b line_feed ≡ f → BeforeRest bs → BeforeRest (b ∷ bs)
    go true p f q e = closed_before (b ∷ bs) (rw p)
    go false p true q e = closed_before (b ∷ bs) (rw (p, q))
    go false p false q e = rw (p, q) (omega arith)

field_short : (bs : List ℕ) → length (field_rest bs) ≤ length bs
unfolding field_rest
field_short [] = omega arith
field_short (b ∷ bs) = go (eqb b tab || eqb b line_feed) (field_short bs)
  where
    go : (t : Bool) → length (field_rest bs) ≤ length bs → length (pick t [] (b ∷ field_rest bs)) ≤ suc (length bs)
    go true h = omega arith
    go false h = omega arith

-- ---- the letter

module _ (text : List ℕ) (at : ℕ) where
  letter_past : length text ≤ at → letter_of (drop at text) ≡ None
  letter_past h = rw (drop_of_length-le text h)

  module _ (h : at < length text) where
    letter_last : length text ≤ at + 1 → letter_of (drop at text) ≡ None
    letter_last l = rw (from_place text at h, drop_of_length-le text l)

    letter_byte : at + 1 < length text → letter_of (drop at text) ≡ pick (eqb (get_or text (at + 1) 0) tab) (Some (get_or text at 0)) None
    letter_byte l = rw (from_place text at h, from_place text (at + 1) l)

  -- a letter has its place in the text
  pub letter_here : {b : ℕ} → letter_of (drop at text) ≡ Some b → (at < length text) × (get_or text at 0 ≡ b)
  letter_here {b} e =
      elim (dec_lt at (length text)) [
        | no h ↦ absurd (let w = sym (letter_past (omega arith)) ∙ e in cc)
        | yes h ↦ elim (dec_lt (at + 1) (length text)) [
          | no l ↦ absurd (let w = sym (letter_last h (omega arith)) ∙ e in cc)
          | yes l ↦ (h, picked (eqb (get_or text (at + 1) 0) tab) (sym (letter_byte h l) ∙ e))
        ]
      ]
    where
      picked : {a : ℕ} (t : Bool) → pick t (Some a) None ≡ Some b → a ≡ b
      picked true e = cc
      picked false e = absurd cc

-- ---- the line of a place

module _ (text : List ℕ) (at : ℕ) where
  pieces : split line_feed (drop at text) ≡ line_rest (drop at text) ∷ pieces_after line_feed (drop (line_end text at) text)
  unfolding line_rest line_end
  pieces = split_cut line_feed (drop at text) ∙ rw (drop-drop (before line_feed (drop at text)) at text)

  pub pieces_whole : line_end text at < length text → split line_feed (drop at text) ≡ line_rest (drop at text) ∷ split line_feed (drop (line_end text at + 1) text)
  pieces_whole h = pieces ∙ rw (from_place text (line_end text at) h)

  pub pieces_cut : length text ≤ line_end text at → split line_feed (drop at text) ≡ line_rest (drop at text) ∷ []
  pieces_cut h = pieces ∙ rw (drop_of_length-le text h)

  pub rest-length : at + length (line_rest (drop at text)) ≡ line_end text at
  unfolding line_rest line_end
  rest-length = rw (length-take-le (before line_feed (drop at text)) (drop at text) (before-le line_feed (drop at text)))

-- ---- behind a place

module _ (text : List ℕ) (at : ℕ) where
  -- the field behind the place, and where it ends
  abbrev field : List ℕ
  field = field_rest (drop (at + 1) text)

  abbrev stop : ℕ
  stop = at + 1 + length field

  -- at the end of a text and at a line feed there is no field
  pub record NoneBehind : Type 0 where
    pub fields : fields_behind text at ≡ []
    pub ends : line_end text at ≡ at

  pub behind_end : length text ≤ at → NoneBehind
  unfolding fields_behind line_rest line_end before
  behind_end h = record { fields = rw (drop_of_length-le text h); ends = rw (drop_of_length-le text h) (omega arith) }

  module _ (h : at < length text) where
    pub behind_feed : get_or text at 0 ≡ line_feed → NoneBehind
    unfolding fields_behind line_rest line_end before
    behind_feed f = record { fields = rw (from_place text at h, eq-eqb _ _ f); ends = rw (from_place text at h, eq-eqb _ _ f) (omega arith) }

    module _ (n : get_or text at 0 ≡ line_feed → ⊥) where
      -- another byte does not end the line
      pub end_on : line_end text at ≡ line_end text (at + 1)
      unfolding line_end before
      end_on = rw (from_place text at h, ne_eqb _ _ n) (omega arith)

      pub behind-field : fields_behind text at ≡ field ∷ fields_behind text stop
      unfolding fields_behind line_rest before
      behind-field = rw (from_place text at h, ne_eqb _ _ n) (split_rest (drop (at + 1) text) ∙ rw (drop-drop (length field) (at + 1) text))

      same_end : line_end text at ≡ line_end text stop
      unfolding line_end before
      same_end = rw (from_place text at h, ne_eqb _ _ n) (omega (arith, before-rest (drop (at + 1) text), ap (before line_feed) (drop-drop (length field) (at + 1) text)))

      stop_within : stop ≤ length text
      stop_within = omega (arith, field_short (drop (at + 1) text), length-drop (at + 1) text)

  abbrev Open : Type 0
  Open = (at < length text) × (get_or text at 0 ≡ line_feed → ⊥)

  none_or_open : NoneBehind ⊎ Open
  none_or_open =
      elim (dec_lt at (length text)) [
        | no h ↦ inl (behind_end (omega arith))
        | yes h ↦ elim (ℕ_discrete (get_or text at 0) line_feed) [ yes f ↦ inl (behind_feed h f) | no n ↦ inr (h, n) ]
      ]

-- what is told of the field behind a place
module _ (text : List ℕ) (at : ℕ) where
  pub told_end : length text ≤ at → first_field (fields_behind text at) at ≡ Err NoField
  told_end h = rw (behind_end text at h).fields

  pub told_feed : at < length text → get_or text at 0 ≡ line_feed → first_field (fields_behind text at) at ≡ Err NoField
  told_feed h f = rw (behind_feed text at h f).fields

  pub told_field : at < length text → (get_or text at 0 ≡ line_feed → ⊥) → first_field (fields_behind text at) at ≡ field_at text (at + 1)
  unfolding field_at
  told_field h n = rw (behind-field text at h n)

pub ruleset told_behind = (told_end, told_feed, told_field)

-- each of the three answers on a field says what its number is
said_some : (o : Option ℕ) (stop : ℕ) {n : Number} → said_up_to o stop ≡ Ok n → (o ≡ some n.value) × (stop ≡ n.end)
said_some none stop e = absurd cc
said_some (some m) stop {n} e = let f : ◌≡◌ {A = Number} (record { value = m; end = stop }) n = cc in (ap (λ x. some x.value) f, ap (λ x. x.end) f)

said_none : (o : Option ℕ) (stop : ℕ) → said_up_to o stop ≡ Err NoNumber → o ≡ none
said_none none stop e = refl
said_none (some n) stop e = absurd cc

said_not_end : (o : Option ℕ) (stop : ℕ) → said_up_to o stop ≡ Err NoField → ⊥
said_not_end none stop e = cc
said_not_end (some n) stop e = cc

-- a field behind a place that says a number, and what is left behind it
pub record SaidBehind (text : List ℕ) (at value end : ℕ) : Type 0 where
  pub here : at < length text
  pub forward : at < end
  pub within : end ≤ length text
  pub numbers : numbers_of (fields_behind text at) ≡ cons_onto (some value) (numbers_of (fields_behind text end))
  pub front : leading (fields_behind text at) ≡ value ∷ leading (fields_behind text end)
  pub same_line : line_end text at ≡ line_end text end

module _ (text : List ℕ) (at : ℕ) where
  abbrev told : Result Number Absent
  told = first_field (fields_behind text at) at

  pub said_behind_lem : {n : Number} → told ≡ Ok n → SaidBehind text at n.value n.end
  unfolding numbers_of leading
  said_behind_lem e =
      ⊎_elim
      (λ none. absurd (let w = rw none.fields at e in cc))
      (λ o.
      let (h, k) = o in
      let f = behind-field text at h k in
      let (n, s) = said_some (number_of (field text at)) (stop text at) (rw f at e) in
      rw (← s) (record {
        here = h;
        forward = omega arith;
        within = stop_within text at h k;
        numbers = rw (f, n);
        front = rw (f, n);
        same_line = same_end text at h k;
      }))
      (none_or_open text at)

  -- the same of `ok`, as `?` reads it
  pub said_ok : {r : Result Number Absent} {n : Number} → r ≡ told → Some n ≡ result_ok r → SaidBehind text at n.value n.end
  said_ok {r} {n} e o = said_behind_lem (sym e ∙ go r o)
    where
      go : (r : Result Number Absent) → Some n ≡ result_ok r → r ≡ Ok n
      go (Ok m) o = cc
      go (Err why) o = absurd cc

  -- no number: the numbers end here, and they are not all
  pub unsaid_behind : told ≡ Err NoNumber → (numbers_of (fields_behind text at) ≡ none) × (leading (fields_behind text at) ≡ [])
  unfolding numbers_of leading
  unsaid_behind e =
      ⊎_elim
      (λ none. absurd (let w = rw none.fields at e in cc))
      (λ o.
      let f = behind-field text at o.0 o.1 in
      let n = said_none (number_of (field text at)) (stop text at) (rw f at e) in
      rw (f, n) (refl, refl))
      (none_or_open text at)

  pub none_behind : told ≡ Err NoField → NoneBehind text at
  none_behind e = ⊎_elim (λ none. none) (λ o. absurd (said_not_end (number_of (field text at)) (stop text at) (rw (behind-field text at o.0 o.1) at e))) (none_or_open text at)
