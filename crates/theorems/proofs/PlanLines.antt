-- Lines of a letter and three numbers, as a plan has them: one made of these is read as these, and one that is read as these is made
-- of them.
use mathlib.Core.Path.{◌≡◌, refl}
use mathlib.Core.Bool.{Bool, true, false}
use mathlib.Core.List.{List, [], ◌∷◌, ◌++◌}
use mathlib.Core.Option.{Option, none, some}
use Prim.Native.Nat.{ℕ, ◌<◌}
use native.Mathlib.Omega.{arith}
use lib.Dec.{eqb}
use borrow.Author.Tests.{eqb-true, eq-eqb, ne_eqb}
use Rattle.counting.specs.Count.{pick}
use Rattle.counting.proofs.Places.{some_same, none_not_some}
use Rattle.rules.specs.Bytes.{tab, line_feed, line_text, numbers_of, split}
use Rattle.rules.specs.PlanBack.{Three, three_numbers, three_fields, three_of}
use Rattle.theorems.proofs.TextPieces.{each_after, split-joined}
use Rattle.theorems.proofs.TextLines.{line_bytes, Sayable, line_text_lem, split_fields, numbers-said, said-numbers}

-- the text of a line of three numbers
abbrev pub three_text : ℕ → Three → List ℕ
three_text letter t = line_text letter (t.first ∷ t.second ∷ t.third ∷ [])

pub three_of-bytes : (letter : ℕ) (ns : List ℕ) → line_feed < letter → Sayable ns → three_of letter (line_bytes letter ns) ≡ three_numbers (some ns)
unfolding three_of
three_of-bytes letter ns l h =
    rw (split_fields (letter ∷ []) ns (rw (ne_eqb letter tab (omega arith))), eq-eqb letter letter refl, numbers-said ns h)

three_numbers_lem : (ns : List ℕ) (t : Three) → three_numbers (some ns) ≡ some t → ns ≡ t.first ∷ t.second ∷ t.third ∷ []
three_numbers_lem [] t e = absurd (none_not_some e)
three_numbers_lem (a ∷ []) t e = absurd (none_not_some e)
three_numbers_lem (a ∷ b ∷ []) t e = absurd (none_not_some e)
three_numbers_lem (a ∷ b ∷ c ∷ []) t e = rw (← some_same e)
three_numbers_lem (a ∷ b ∷ c ∷ n ∷ ns) t e = absurd (none_not_some e)

-- the bytes, with a line feed, are the text of what they are read as
pub three_says : (letter : ℕ) (bytes : List ℕ) (t : Three) → three_of letter bytes ≡ some t → bytes ++ (line_feed ∷ []) ≡ three_text letter t
unfolding three_of
three_says letter bytes t = by_fields (split tab bytes) refl
  where
    by_numbers : (fs : List (List ℕ)) (o : Option (List ℕ)) → numbers_of fs ≡ o → bytes ≡ letter ∷ each_after tab fs → three_numbers o ≡ some t
        → bytes ++ (line_feed ∷ []) ≡ three_text letter t
    by_numbers fs none q j e = absurd (none_not_some e)
    by_numbers fs (some ns) q j e = rw (← three_numbers_lem ns t e, line_text_lem letter ns, ← said-numbers fs ns q, j)

    by_letter : (b : ℕ) (fs : List (List ℕ)) (same : Bool) → eqb b letter ≡ same → bytes ≡ b ∷ each_after tab fs
        → pick same (three_numbers (numbers_of fs)) none ≡ some t → bytes ++ (line_feed ∷ []) ≡ three_text letter t
    by_letter b fs true s j e = by_numbers fs (numbers_of fs) refl (rw (← eqb-true b letter s) j) e
    by_letter b fs false s j e = absurd (none_not_some e)

    by_fields : (fs : List (List ℕ)) → split tab bytes ≡ fs → three_fields letter fs ≡ some t → bytes ++ (line_feed ∷ []) ≡ three_text letter t
    by_fields [] s e = absurd (none_not_some e)
    by_fields ([] ∷ fs) s e = absurd (none_not_some e)
    by_fields ((b ∷ []) ∷ fs) s e = by_letter b fs (eqb b letter) refl (split-joined tab bytes (b ∷ []) fs s) e
    by_fields ((b ∷ c ∷ bs) ∷ fs) s e = absurd (none_not_some e)
