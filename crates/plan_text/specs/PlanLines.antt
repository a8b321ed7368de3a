-- What the plan reader's own functions answer at a place of a plan's text, by the pieces that are left there.
use Rattle.std.specs.Prelude.{Bool, List, [], ◌∷◌, map, ℕ, suc, ◌+◌, eqb, length, drop, Option as Answer, Some, None, Result, Ok, Err}
use Rattle.std.proofs.Math.Option.{Option, none, some}
use Rattle.std.proofs.lemmas.List.Edits.{sets}
use Rattle.counting.specs.Count.{pick}
use Rattle.rules.specs.Network.{Job}
use Rattle.rules.specs.Outcome.{Outcome, onward}
use Rattle.rules.specs.Bytes.{line_feed, letter_s, letter_t, split, begins}
use Rattle.rules.specs.PlanBack.{Three as Said, three_of, ended, Row, rows_from, starts_of, nothing, with_rows}
use Rattle.job.specs.declared.Refusal.{Refusal}
use Rattle.job.specs.declared.Refusal.TheVariants.{BadForm}
use Rattle.lines.specs.declared.reading.Lines.{Lines}
use Rattle.lines.specs.Cursor.{line_after}
use Rattle.plan_text.specs.declared.reading.Three.{Three}
use Rattle.plan_text.specs.declared.reading.ThreeLine.{ThreeLine}
use Rattle.plan_text.specs.declared.reading.Rows.{Rows}

-- ---- a line by itself

-- three numbers of the code as those of the rules, and back
abbrev pub three_told : Three → Said
three_told t = record { first = t.first; second = t.second; third = t.third }

abbrev pub told_three : Said → Three
told_three t = record { first = t.first; second = t.second; third = t.third }

-- ---- the line at a place

-- the place behind a line
abbrev pub behind : Lines → List ℕ → Lines
behind c p = record { at = c.at + length p + 1; line = line_after c.line }

abbrev pub with_next : Option Said → Lines → Answer ThreeLine
with_next none next = None
with_next (some t) next = Some (record { said = told_three t; next = next })

abbrev pub line_left : Lines → ℕ → List (List ℕ) → Answer ThreeLine
line_left c letter [] = None
line_left c letter (p ∷ ps) = with_next (ended ps (three_of letter p)) (behind c p)

unfoldable pub line_at : List ℕ → Lines → ℕ → Answer ThreeLine
line_at text c letter = line_left c letter (split line_feed (drop c.at text))

-- ---- the S lines from a place on

abbrev pub on_row : Lines → ℕ → Option Said → Result Rows Refusal → Result Rows Refusal
on_row c k none r = Err (BadForm c.line)
on_row c k (some t) r = pick (eqb t.first k) r (Err (BadForm c.line))

-- from packet k on
unfoldable pub rows_left : Lines → ℕ → List (List ℕ) → Result Rows Refusal
rows_left c k [] = Ok (record { count = k; next = c })
rows_left c k (p ∷ ps) =
    pick (begins letter_s p) (on_row c k (ended ps (three_of letter_s p)) (rows_left (behind c p) (suc k) ps))
    (Ok (record { count = k; next = c }))

unfoldable pub rows_at : List ℕ → Lines → Result Rows Refusal
rows_at plan c = rows_left c 0 (split line_feed (drop c.at plan))

-- the rows up to the first piece that is not the next packet's line
abbrev pub front_row : ℕ → Option Said → List Row → List Row
front_row k none rows = []
front_row k (some t) rows = pick (eqb t.first k) (record { start = t.second; end = t.third } ∷ rows) []

unfoldable pub rows_up_to : ℕ → List (List ℕ) → List Row
rows_up_to k [] = []
rows_up_to k (p ∷ ps) = pick (begins letter_s p) (front_row k (ended ps (three_of letter_s p)) (rows_up_to (suc k) ps)) []

abbrev pub rows_found : List ℕ → Lines → List Row
rows_found plan c = rows_up_to 0 (split line_feed (drop c.at plan))

abbrev pub ends_of : List Row → List ℕ
ends_of rows = map (λ r. r.end) rows

-- starts and ends, stored from the first place on as far as the lists go
abbrev pub starts_stored : List ℕ → List Row → List ℕ
starts_stored list rows = sets list 0 (starts_of rows)

abbrev pub ends_stored : List ℕ → List Row → List ℕ
ends_stored list rows = sets list 0 (ends_of rows)

-- ---- the T line at a place, and the end

abbrev pub on_totals : Lines → Option Said → Bool → Result Three Refusal
on_totals c none last = Err (BadForm c.line)
on_totals c (some t) last = pick last (Ok (told_three t)) (Err (BadForm (line_after c.line)))

abbrev pub totals_left : Lines → List (List ℕ) → Result Three Refusal
totals_left c [] = Err (BadForm c.line)
totals_left c (p ∷ ps) = on_totals c (ended ps (three_of letter_t p)) (nothing ps)

unfoldable pub totals_at : List ℕ → Lines → Result Three Refusal
totals_at plan c = totals_left c (split line_feed (drop c.at plan))

-- ---- rows that were stored

-- a row for each place that both lists have
unfoldable pub rows_in : (starts ends : List ℕ) → List Row
rows_in [] es = []
rows_in (s ∷ ss) [] = []
rows_in (s ∷ ss) (e ∷ es) = record { start = s; end = e } ∷ rows_in ss es

-- ---- the lines together

-- the starts that the lines of a plan say for an accepted job
abbrev pub lines_say : Job → List ℕ → Outcome (List ℕ)
lines_say j plan = onward (rows_from 0 (split line_feed plan)) (with_rows j (split line_feed plan))
