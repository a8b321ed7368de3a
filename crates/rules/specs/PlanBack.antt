-- Document 02, request 1, "Read plans back": what a plan's text means for a job. First the S lines, which end where a line begins
-- with anything else; then the T line, with nothing after it; then whether the lines follow from the starts they say. 2, 12 and 14
-- name the plan's line, from 1: that of packet k is line k + 1.
use Rattle.std.specs.Prelude.{Bool, true, false, ◌&&◌, List, [], ◌∷◌, map, ℕ, suc, eqb, leb, length, drop}
use Rattle.std.proofs.Math.Option.{Option, none, some}
use Rattle.counting.specs.Count.{pick}
use Rattle.rules.specs.Sizes.{text_most, start_most}
use Rattle.rules.specs.Network.{Job, paths}
use Rattle.rules.specs.Travel.{delay_in}
use Rattle.rules.specs.Outcome.{Outcome, is, refused, Verdict, fine, must, ◌then◌, onward}
use Rattle.rules.specs.Tables.{tables}
use Rattle.rules.specs.Counts.{end_of, routing_time, congestion, dilation}
use Rattle.rules.specs.Bytes.{tab, line_feed, letter_s, letter_t, numbers_of, split, begins}

-- ---- a line by itself

-- the three numbers of a line
pub record Three : Type 0 where
  pub first : ℕ
  pub second : ℕ
  pub third : ℕ

abbrev pub three_numbers : Option (List ℕ) → Option Three
three_numbers none = none
three_numbers (some []) = none
three_numbers (some (a ∷ [])) = none
three_numbers (some (a ∷ b ∷ [])) = none
three_numbers (some (a ∷ b ∷ c ∷ [])) = some (record { first = a; second = b; third = c })
three_numbers (some (a ∷ b ∷ c ∷ n ∷ ns)) = none

-- by its fields: the letter, and three numbers
abbrev pub three_fields : ℕ → List (List ℕ) → Option Three
three_fields letter [] = none
three_fields letter ([] ∷ fs) = none
three_fields letter ((b ∷ []) ∷ fs) = pick (eqb b letter) (three_numbers (numbers_of fs)) none
three_fields letter ((b ∷ c ∷ bs) ∷ fs) = none

unfoldable pub three_of : ℕ → List ℕ → Option Three
three_of letter bytes = three_fields letter (split tab bytes)

-- a piece is a line only if a line feed ends it: then another piece stands behind it, be it empty
abbrev pub ended : {A : Type 0} → List (List ℕ) → Option A → Option A
ended [] o = none
ended (q ∷ qs) o = o

-- ---- the S lines

-- what a packet's line says of it
pub record Row : Type 0 where
  pub start : ℕ
  pub end : ℕ

-- the line of packet k: 2 for its form or its number
abbrev pub row_of : ℕ → Option Three → Outcome Row
row_of k none = refused 2 (suc k)
row_of k (some t) = must (eqb t.first k) 2 (suc k) then is (record { start = t.second; end = t.third })

-- the rows from packet k on, up to the first piece that does not begin with S
unfoldable pub rows_from : ℕ → List (List ℕ) → Outcome (List Row)
rows_from k [] = is []
rows_from k (p ∷ ps) =
    pick (begins letter_s p)
    (onward (row_of k (ended ps (three_of letter_s p))) (λ row. onward (rows_from (suc k) ps) (λ rows. is (row ∷ rows))))
    (is [])

-- ---- the T line

abbrev pub totals_of : ℕ → Option Three → Outcome Three
totals_of n none = refused 2 n
totals_of n (some t) = is t

-- one piece is left, and it is empty
abbrev pub nothing : List (List ℕ) → Bool
nothing [] = false
nothing ([] ∷ []) = true
nothing ([] ∷ q ∷ ps) = false
nothing ((b ∷ bs) ∷ ps) = false

-- the pieces from line n on: the T line, else 2 there, and nothing after it, else 2 at the line after it
unfoldable pub last_line : ℕ → List (List ℕ) → Outcome Three
last_line n [] = refused 2 n
last_line n (p ∷ ps) = onward (totals_of n (ended ps (three_of letter_t p))) (λ t. must (nothing ps) 2 (suc n) then is t)

-- ---- what follows from the starts

-- line by line from line n on: 12 for a start that is too late, then 14 for an end that does not follow
unfoldable pub rows_verdict : (ℕ → ℕ) → ℕ → List Row → List (List ℕ) → Verdict
rows_verdict delay n [] ps = fine
rows_verdict delay n (r ∷ rows) [] = fine
rows_verdict delay n (r ∷ rows) (p ∷ ps) =
    must (leb r.start start_most) 12 n
    then must (eqb r.end (end_of delay r.start p)) 14 n
    then rows_verdict delay (suc n) rows ps

abbrev pub starts_of : List Row → List ℕ
starts_of rows = map (λ r. r.start) rows

-- line n, the T line: 14 for a routing time, a C or a D that does not follow
unfoldable pub totals_verdict : ℕ → Job → List ℕ → Three → Verdict
totals_verdict n j starts t =
    must (eqb t.first (routing_time (delay_in j) starts (paths j)) && eqb t.second (congestion j) && eqb t.third (dilation j)) 14 n

-- the starts, where the lines follow from them
unfoldable pub followed : Job → List Row → Three → Outcome (List ℕ)
followed j rows t =
    rows_verdict (delay_in j) 1 rows (paths j)
    then totals_verdict (suc (length rows)) j (starts_of rows) t
    then is (starts_of rows)

-- ---- the whole

-- 11 unless there are as many rows as packets, then what stands behind them
unfoldable pub with_rows : Job → List (List ℕ) → List Row → Outcome (List ℕ)
with_rows j pieces rows =
    must (eqb (length rows) (length j.sources)) 11 0
    then onward (last_line (suc (length rows)) (drop (length rows) pieces)) (followed j rows)

-- the starts that a plan's text says for a job
unfoldable pub read_back : Job → List ℕ → Outcome (List ℕ)
read_back j plan =
    tables j
    then must (leb (length plan) text_most) 1 0
    then onward (rows_from 0 (split line_feed plan)) (with_rows j (split line_feed plan))
