-- A line of a letter and three numbers at a place of a text: its letter, the fields behind that, and the line feed that ends it.
use mathlib.Core.Path.{◌≡◌, refl, sym, ap, ◌∙◌}
use mathlib.Core.Logic.{⊎_elim}
use mathlib.Core.Bool.{Bool, true, false, not}
use mathlib.Core.List.{List, [], ◌∷◌}
use mathlib.Core.Option.{Option, none, some}
use Prim.Native.Nat.{ℕ, ◌+◌, ◌≤◌, ◌<◌}
use native.Mathlib.Decide.{dec_lt}
use native.Mathlib.Omega.{arith}
use borrow.Author.Tests.{eqb-true, eq-eqb, ne_eqb}
use lib.Dec.{eqb}
use lib.ListN.{length, drop}
use Rattle.std.proofs.Common.{Option as Answer, None, Some}
use Rattle.std.specs.Option.{option_eq}
use Rattle.counting.specs.Count.{pick}
use Rattle.rules.specs.Bytes.{line_feed, cons_onto, numbers_of, begins}
use Rattle.rules.specs.PlanBack.{Three, three_numbers, three_fields, three_of}
use Rattle.theorems.proofs.TextPieces.{split_first}
use Rattle.lines.specs.declared.reading.Lines.{Lines}
use Rattle.lines.specs.Cursor.{cursor_at, line_after}
use Rattle.lines.specs.Behind.{letter_of, line_rest, line_end, fields_behind}
use Rattle.lines.proofs.BehindPlaces.{pieces_whole, pieces_cut, rest-length, SaidBehind}
use Rattle.lines.proofs.LetterAndFeed.{ByLetter, lettered, line_letter, letter_open, begun, fed, unfed, Unsaid, unsaid}
use Rattle.plan_text.specs.PlanLines.{with_next, line_at}

-- ---- the letter and the numbers

-- a line is said by its letter and the numbers behind that
abbrev of_letter : ℕ → ℕ → Option (List ℕ) → Option Three
of_letter letter b o = pick (eqb b letter) (three_numbers o) none

by_letter : {letter : ℕ} → line_feed < letter → ByLetter none (three_fields letter) (of_letter letter)
by_letter {letter} l = record {
  empty = λ fs. refl;
  one = λ b fs. refl;
  longer = λ b c bs fs. refl;
  alone = λ b. go (eqb b letter);
  part = λ b o h. rw (ne_eqb b letter (λ e. omega arith));
}
  where
    go : (t : Bool) → pick {A = Option Three} t none none ≡ none
    go true = refl
    go false = refl

-- a fourth field, be it a number or not
more_than_three : (a b c : ℕ) (o : Option (List ℕ)) → (o ≡ some [] → ⊥) → three_numbers (cons_onto (some a) (cons_onto (some b) (cons_onto (some c) o))) ≡ none
more_than_three a b c none h = refl
more_than_three a b c (some []) h = absurd (h refl)
more_than_three a b c (some (n ∷ ns)) h = refl

-- ---- whole and cut lines

module _ (text : List ℕ) (c : Lines) (letter : ℕ) where
  -- what the line by itself says
  abbrev said : Option Three
  said = three_of letter (line_rest (drop c.at text))

  at_whole : line_end text c.at < length text → line_at text c letter ≡ with_next said (cursor_at (line_end text c.at + 1) (line_after c.line))
  unfolding line_at
  at_whole h =
      let (q, qs, f) = split_first line_feed (drop (line_end text c.at + 1) text) in
      rw (pieces_whole text c.at h, f, rest-length text c.at)

  at_cut : length text ≤ line_end text c.at → line_at text c letter ≡ None
  unfolding line_at
  at_cut h = rw (pieces_cut text c.at h)

  at_none : said ≡ none → None ≡ line_at text c letter
  at_none e = elim (dec_lt (line_end text c.at) (length text)) [
    | yes h ↦ sym (at_whole h ∙ rw e)
    | no h ↦ sym (at_cut (omega arith))
  ]

-- ---- from the letter on

-- the letter stands here, and the line goes on behind it
pub record Lettered (text : List ℕ) (c : Lines) (letter : ℕ) : Type 0 where
  pub within : c.at < length text
  pub numbers : said text c letter ≡ three_numbers (numbers_of (fields_behind text (c.at + 1)))
  pub same_line : line_end text c.at ≡ line_end text (c.at + 1)

module _ (text : List ℕ) (c : Lines) {letter : ℕ} (l : line_feed < letter) {here : Answer ℕ} (e : here ≡ letter_of (drop c.at text)) where
  said_of : said text c letter ≡ lettered none (of_letter letter) here (numbers_of (fields_behind text (c.at + 1)))
  unfolding three_of
  said_of = rw e (line_letter (by_letter l) text c.at)

  pub other_letter : true ≡ not (option_eq eqb here (Some letter)) → None ≡ line_at text c letter
  other_letter n = at_none text c letter (said_of ∙ go here n)
    where
      at_byte : (t : Bool) (o : Option (List ℕ)) → true ≡ not t → pick t (three_numbers o) none ≡ none
      at_byte true o m = absurd cc
      at_byte false o m = refl

      go : (h : Answer ℕ) → true ≡ not (option_eq eqb h (Some letter)) → lettered none (of_letter letter) h (numbers_of (fields_behind text (c.at + 1))) ≡ none
      go None m = refl
      go (Some b) m = at_byte (eqb b letter) _ m

  pub this_letter : false ≡ not (option_eq eqb here (Some letter)) → Lettered text c letter
  this_letter n =
      let same = go here n in
      let (h, x) = letter_open text c.at (sym e ∙ same) l in
      record { within = h; numbers = said_of ∙ rw (same, eq-eqb letter letter refl); same_line = x }
    where
      at_byte : (t : Bool) → false ≡ not t → t ≡ true
      at_byte true m = refl
      at_byte false m = absurd cc

      go : (h : Answer ℕ) → false ≡ not (option_eq eqb h (Some letter)) → h ≡ Some letter
      go None m = absurd cc
      go (Some b) m = ap (λ (n : ℕ). Some n) (eqb-true b letter (at_byte (eqb b letter) m))

module _ {text : List ℕ} {c : Lines} {letter : ℕ} (w : Lettered text c letter) where
  pub no_first : Unsaid text (c.at + 1) → None ≡ line_at text c letter
  no_first n = at_none text c letter (w.numbers ∙ ⊎_elim (λ e. rw e) (λ e. rw e) (unsaid text (c.at + 1) n))

  module _ {first first_end : ℕ} (f : SaidBehind text (c.at + 1) first first_end) where
    pub no_second : Unsaid text first_end → None ≡ line_at text c letter
    no_second n = at_none text c letter (w.numbers ∙ rw f.numbers (⊎_elim (λ e. rw e) (λ e. rw e) (unsaid text first_end n)))

    module _ {second second_end : ℕ} (s : SaidBehind text first_end second second_end) where
      pub no_third : Unsaid text second_end → None ≡ line_at text c letter
      no_third n = at_none text c letter (w.numbers ∙ rw (f.numbers, s.numbers) (⊎_elim (λ e. rw e) (λ e. rw e) (unsaid text second_end n)))

      module _ {third third_end : ℕ} (t : SaidBehind text second_end third third_end) where
        last_line_lem : line_end text c.at ≡ line_end text third_end
        last_line_lem = w.same_line ∙ f.same_line ∙ s.same_line ∙ t.same_line

        pub three_unfed : begins line_feed (drop third_end text) ≡ false → None ≡ line_at text c letter
        three_unfed u = ⊎_elim
            (λ h. sym (at_cut text c letter (omega (arith, last_line_lem))))
            (λ h. at_none text c letter (w.numbers ∙ rw (f.numbers, s.numbers, t.numbers) (more_than_three first second third (numbers_of (fields_behind text third_end)) h)))
            (unfed text third_end u)

        pub three-found : begins line_feed (drop third_end text) ≡ true
            → Some (record { said = record { first = first; second = second; third = third }; next = cursor_at (third_end + 1) (line_after c.line) }) ≡ line_at text c letter
        unfolding numbers_of
        three-found u =
            let n = fed text third_end u in
            let stop : line_end text c.at ≡ third_end = last_line_lem ∙ n.ends in
            sym (at_whole text c letter (omega (arith, stop, (begun line_feed text third_end u).0)) ∙ rw (w.numbers, stop, f.numbers, s.numbers, t.numbers, n.fields))
