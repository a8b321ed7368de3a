-- What the reader finds in a plan's text is what the rules say of it: the S lines with the pieces behind them, the T line with the end,
-- and the same refusals. A plan of at most `text_most` bytes has no line whose number a cursor does not hold.
use mathlib.Core.Path.{◌≡◌, refl, sym, ap, ◌∙◌}
use mathlib.Core.Bool.{Bool, true, false}
use mathlib.Core.List.{List, [], ◌∷◌}
use mathlib.Core.Option.{Option, none, some}
use Prim.Native.Nat.{ℕ, suc, ◌+◌, ◌≤◌, ◌<◌}
use native.Mathlib.Omega.{arith}
use lib.Dec.{eqb}
use lib.ListN.{length, drop}
use Rattle.std.proofs.Common.{Result, Ok, Err}
use Rattle.counting.specs.Count.{pick}
use Rattle.counting.proofs.Places.{none_not_some}
use Rattle.rules.specs.Sizes.{text_most}
use Rattle.rules.specs.Bytes.{line_feed, letter_s, letter_t, split, begins}
use Rattle.rules.specs.Outcome.{Outcome, is, refused, must, ◌then◌, onward}
use Rattle.rules.specs.PlanBack.{Three as Said, three_of, ended, Row, row_of, rows_from, totals_of, nothing, last_line}
use Rattle.job.specs.declared.Refusal.{Refusal}
use Rattle.job.specs.declared.Refusal.TheVariants.{BadForm}
use Rattle.job.specs.Told.{refusal_of, outcome_of}
use Rattle.lines.specs.declared.reading.Lines.{Lines}
use Rattle.lines.specs.Cursor.{line_most, line_after, top_line}
use Rattle.lines.proofs.LetterAndFeed.{begun}
use Rattle.plan_text.specs.declared.reading.Three.{Three}
use Rattle.plan_text.specs.declared.reading.Rows.{Rows}
use Rattle.plan_text.specs.PlanLines.{three_told, behind, on_row, rows_left, rows_at, front_row, rows_up_to, rows_found}
use Rattle.plan_text.specs.PlanLines.{on_totals, totals_left, totals_at}
use Rattle.plan_text.proofs.RowsLeft.{begins-split, pieces-behind}

-- ---- the S lines

module _ (plan : List ℕ) where
  -- an answer on the rows from packet k on, whose pieces are ps, for the rules' own answer and these rows
  abbrev Tells : Outcome (List Row) → List Row → ℕ → List (List ℕ) → Result Rows Refusal → Type 0
  Tells ruled rows k ps (Ok all) =
      (ruled ≡ is rows) × (k + length rows ≡ all.count) × (all.next.line ≡ suc all.count) × (all.count ≤ length plan)
      × (split line_feed (drop all.next.at plan) ≡ drop (length rows) ps)
  Tells ruled rows k ps (Err r) = ruled ≡ refusal_of r

  tells_row : (ruled : Outcome (List Row)) (rows : List Row) (k : ℕ) (ps : List (List ℕ)) (row : Row) (p : List ℕ) (r : Result Rows Refusal)
      → Tells ruled rows (suc k) ps r → Tells (onward ruled (λ rows. is (row ∷ rows))) (row ∷ rows) k (p ∷ ps) r
  tells_row ruled rows k ps row p (Ok all) (told, counted, line, most, left) = (rw told, omega arith, line, most, left)
  tells_row ruled rows k ps row p (Err r) told = rw told

  -- the piece p at c, and the pieces behind it
  module _ (c : Lines) (k : ℕ) (p : List ℕ) (ps : List (List ℕ)) (line : c.line ≡ suc k) where
    abbrev Behind : Type 0
    Behind = Tells (rows_from (suc k) ps) (rows_up_to (suc k) ps) (suc k) ps (rows_left (behind c p) (suc k) ps)

    abbrev with_behind : Row → Outcome (List Row)
    with_behind row = onward (rows_from (suc k) ps) (λ rows. is (row ∷ rows))

    by_number : (t : Bool) (row : Row) → Behind
        → Tells (onward (must t 2 (suc k) then is row) with_behind) (pick t (row ∷ rows_up_to (suc k) ps) []) k (p ∷ ps)
        (pick t (rows_left (behind c p) (suc k) ps) (Err (BadForm c.line)))
    by_number true row r = tells_row (rows_from (suc k) ps) (rows_up_to (suc k) ps) k ps row p (rows_left (behind c p) (suc k) ps) r
    by_number false row r = ap (refused 2) (sym line)

    by_letter : k ≤ length plan → split line_feed (drop c.at plan) ≡ p ∷ ps
        → (t : Bool) (o : Option Said) → (t ≡ true → (s : Said) → o ≡ some s → Behind)
        → Tells (pick t (onward (row_of k o) with_behind) (is [])) (pick t (front_row k o (rows_up_to (suc k) ps)) []) k (p ∷ ps)
        (pick t (on_row c k o (rows_left (behind c p) (suc k) ps)) (Ok (record { count = k; next = c })))
    by_letter most here false o r = (refl, omega arith, line, most, here)
    by_letter most here true none r = ap (refused 2) (sym line)
    by_letter most here true (some s) r = by_number (eqb s.first k) (record { start = s.second; end = s.third }) (r refl s refl)

  -- the pieces behind a line of three numbers
  pieces_next : (c : Lines) (p : List ℕ) (ps : List (List ℕ)) → split line_feed (drop c.at plan) ≡ p ∷ ps
      → {s : Said} → ended ps (three_of letter_s p) ≡ some s → split line_feed (drop (behind c p).at plan) ≡ ps
  pieces_next c p [] e o = absurd (none_not_some o)
  pieces_next c p (q ∷ qs) e o = pieces-behind plan c p q qs e

  module _ (small : length plan ≤ text_most) where
    left-told : (c : Lines) (k : ℕ) (ps : List (List ℕ)) → split line_feed (drop c.at plan) ≡ ps
        → c.line ≡ suc k → k ≤ c.at → k ≤ length plan → Tells (rows_from k ps) (rows_up_to k ps) k ps (rows_left c k ps)
    unfolding rows_from rows_up_to rows_left
    left-told c k [] e line within most = (refl, omega arith, line, most, e)
    left-told c k (p ∷ ps) e line within most =
        by_letter c k p ps line most e (begins letter_s p) (ended ps (three_of letter_s p)) (λ b s o.
        let inside = (begun letter_s plan c.at (sym (begins-split (drop c.at plan) p ps e) ∙ b)).0 in
        left-told (behind c p) (suc k) ps (pieces_next c p ps e o) (omega (arith, inside, small)) (omega arith) (omega (arith, inside)))

-- all S lines of a plan: the rules find these rows, so many, and the pieces from this place on are those behind them
pub record RowsTold (plan : List ℕ) (count : ℕ) (next : Lines) : Type 0 where
  pub told : rows_from 0 (split line_feed plan) ≡ is (rows_found plan top_line)
  pub counted : length (rows_found plan top_line) ≡ count
  pub line : next.line ≡ suc count
  pub line_below : next.line < line_most
  pub left : split line_feed (drop next.at plan) ≡ drop count (split line_feed plan)

module _ (plan : List ℕ) (small : length plan ≤ text_most) where
  abbrev Found : Result Rows Refusal → Type 0
  Found r = Tells plan (rows_from 0 (split line_feed plan)) (rows_found plan top_line) 0 (split line_feed plan) r

  found : Found (rows_at plan top_line)
  unfolding rows_at
  found = left-told plan small top_line 0 (split line_feed plan) refl refl (omega arith) (omega arith)

  pub rows_told : {all : Rows} → Ok all ≡ rows_at plan top_line → RowsTold plan all.count all.next
  rows_told {all} e =
      let f : Found (Ok all) = rw (← e) at found in
      let n : length (rows_found plan top_line) ≡ all.count = omega (arith, f.1) in
      record { told = f.0; counted = n; line = f.2; line_below = omega (arith, f.2, f.3, small); left = rw (← n) f.4 }

  pub rows_refused : {r : Refusal} → Err r ≡ rows_at plan top_line → rows_from 0 (split line_feed plan) ≡ refusal_of r
  rows_refused {r} e = let f : Found (Err r) = rw (← e) at found in f

-- ---- the T line

-- the reader's answer as the rules tell it
abbrev totals_told : Result Three Refusal → Outcome Said
totals_told = outcome_of three_told

left_totals : (c : Lines) → c.line < line_most → (ps : List (List ℕ)) → last_line c.line ps ≡ totals_told (totals_left c ps)
unfolding last_line
left_totals c h [] = refl
left_totals c h (p ∷ ps) = go (ended ps (three_of letter_t p)) (nothing ps)
  where
    go : (o : Option Said) (last : Bool)
        → onward (totals_of c.line o) (λ t. must last 2 (suc c.line) then is t) ≡ totals_told (on_totals c o last)
    go none last = refl
    go (some t) true = refl
    go (some t) false = let next : suc c.line ≡ line_after c.line = omega arith in ap (refused 2) next

module _ (plan : List ℕ) (c : Lines) (h : c.line < line_most) where
  pub totals_by_rules : {r : Result Three Refusal} → r ≡ totals_at plan c → last_line c.line (split line_feed (drop c.at plan)) ≡ outcome_of three_told r
  unfolding totals_at
  totals_by_rules e = left_totals c h (split line_feed (drop c.at plan)) ∙ rw e
