-- From what the reader finds in a plan's lines to the starts that they say for a job, or the refusal.
use mathlib.Core.Path.{◌≡◌, refl, sym, ap, ◌∙◌}
use mathlib.Core.List.{List, [], ◌∷◌}
use Prim.Native.Nat.{ℕ, ◌≤◌}
use native.Mathlib.Omega.{arith}
use lib.ListN.{length, take, drop, length-map}
use lib.Seq.{sets, length-sets, sets-eq, take-append-le, take_all}
use borrow.Author.Tests.{eq-eqb, ne_eqb}
use Rattle.std.proofs.Common.{Ok, Err}
use Rattle.rules.specs.Sizes.{text_most, packets_most}
use Rattle.rules.specs.Network.{Job}
use Rattle.rules.specs.Bytes.{line_feed, split}
use Rattle.rules.specs.Outcome.{Outcome, is, refused, fine, onward}
use Rattle.rules.specs.Tables.{tables}
use Rattle.rules.specs.PlanBack.{Row, starts_of, last_line, followed, with_rows}
use Rattle.theorems.proofs.Verdicts.{onward_is}
use Rattle.theorems.proofs.PlanBackExact.{followed-iff}
use Rattle.job.specs.declared.Refusal.{Refusal}
use Rattle.job.specs.declared.Refusal.TheVariants.{StartCount}
use Rattle.job.specs.Told.{refusal_of}
use Rattle.lines.specs.declared.reading.Lines.{Lines}
use Rattle.lines.specs.Cursor.{top_line}
use Rattle.plan_text.specs.declared.reading.Three.{Three}
use Rattle.plan_text.specs.declared.reading.Rows.{Rows}
use Rattle.plan_text.specs.PlanLines.{three_told, rows_at, rows_found, ends_of, starts_stored, ends_stored, totals_at, rows_in, lines_say}
use Rattle.plan_text.proofs.Stops.{accepted_job}
use Rattle.plan_text.proofs.LinesTold.{RowsTold, rows_told, rows_refused, totals_by_rules}

-- ---- rows that were stored

-- what is stored from the first place on stands there
stored_front : (xs lent : List ℕ) {n : ℕ} → n ≡ length xs → n ≤ length lent → take n (sets lent 0 xs) ≡ xs
stored_front xs lent e l =
    rw (e, sets-eq xs lent 0 (omega (arith, e, l))) (take-append-le (length xs) xs _ (omega arith) ∙ take_all (length xs) xs (omega arith))

stored_long : (xs lent : List ℕ) {after : List ℕ} → length lent ≡ packets_most → after ≡ sets lent 0 xs → length after ≡ packets_most
stored_long xs lent l e = ap length e ∙ length-sets lent 0 xs ∙ l

rows_of_both : (rows : List Row) → rows_in (starts_of rows) (ends_of rows) ≡ rows
unfolding rows_in
rows_of_both [] = refl
rows_of_both (r ∷ rows) = ap (λ rs. r ∷ rs) (rows_of_both rows)

-- ---- the ways out

module _ (j : Job) (plan : List ℕ) (short : length plan ≤ text_most) where
  pub rows_bad : {r : Refusal} → Err r ≡ rows_at plan top_line → refusal_of r ≡ lines_say j plan
  rows_bad e = sym (rw (rows_refused plan short e))

  module _ {all : Rows} (rows_are : Ok all ≡ rows_at plan top_line) where
    abbrev rows_here : List Row
    rows_here = rows_found plan top_line

    told : RowsTold plan all.count all.next
    told = rows_told plan short rows_are

    pub count_off : (all.count ≡ length j.sources → ⊥) → refusal_of StartCount ≡ lines_say j plan
    unfolding with_rows
    count_off n = sym (rw (told.told, ne_eqb (length rows_here) (length j.sources) (λ e. n (sym told.counted ∙ e))))

    module _ (same : all.count ≡ length j.sources) where
      last_then : lines_say j plan ≡ onward (last_line all.next.line (split line_feed (drop all.next.at plan))) (followed j rows_here)
      unfolding with_rows
      last_then = rw (told.told, eq-eqb (length rows_here) (length j.sources) (told.counted ∙ same), told.line, told.left, told.counted)

      pub totals_bad : {r : Refusal} → Err r ≡ totals_at plan all.next → refusal_of r ≡ lines_say j plan
      totals_bad e = sym (last_then ∙ rw (totals_by_rules plan all.next told.line_below e))

      module _ {t : Three} (totals_are : Ok t ≡ totals_at plan all.next) where
        lines_followed : lines_say j plan ≡ followed j rows_here (three_told t)
        lines_followed = last_then ∙ rw (totals_by_rules plan all.next told.line_below totals_are)

        -- the rows were stored, in lists with room for the packets of every job
        module _ (few : all.count ≤ packets_most) (lent rest : List ℕ) (lent_long : length lent ≡ packets_most) (rest_long : length rest ≡ packets_most)
            (starts ends : List ℕ) (starts_are : starts ≡ starts_stored lent rows_here) (ends_are : ends ≡ ends_stored rest rows_here) where
          starts_stand : take all.count starts ≡ starts_of rows_here
          starts_stand =
              rw starts_are (stored_front (starts_of rows_here) lent (sym (length-map rows_here (λ r. r.start) ∙ told.counted)) (omega (arith, few, lent_long)))

          ends_stand : take all.count ends ≡ ends_of rows_here
          ends_stand =
              rw ends_are (stored_front (ends_of rows_here) rest (sym (length-map rows_here (λ r. r.end) ∙ told.counted)) (omega (arith, few, rest_long)))

          -- what was looked at is what the rows say
          abbrev Looked : Outcome Unit → Type 0
          Looked o = o ≡ onward (followed j (rows_in (take all.count starts) (take all.count ends)) (three_told t)) (λ starts. fine)

          looked : {o : Outcome Unit} → Looked o → o ≡ onward (lines_say j plan) (λ starts. fine)
          looked e = e ∙ rw (starts_stand, ends_stand, rows_of_both rows_here, lines_followed)

          pub off : {n p : ℕ} → Looked (refused n p) → refused n p ≡ lines_say j plan
          off {n} {p} e = go (lines_say j plan) (looked e)
            where
              go : (o : Outcome (List ℕ)) → refused n p ≡ onward o (λ starts. fine) → refused n p ≡ o
              go (is ss) f = absurd cc
              go (refused m q) f = cc

          pub found : {u : Unit} → Looked (is u) → is (take (length j.sources) starts) ≡ lines_say j plan
          found e =
              let (ss, said, tt') = onward_is (lines_say j plan) (λ starts. fine) (sym (looked e)) in
              let so : starts_of rows_here ≡ ss = ((followed-iff j rows_here (three_told t) ss).0 (sym lines_followed ∙ said)).1.1 in
              rw (← same) (ap is (starts_stand ∙ so) ∙ sym said)

-- no job has more packets than the lists have places
module _ (j : Job) (t : tables j ≡ fine) {n : ℕ} (e : n ≡ length j.sources) where
  pub packets_fit : n ≤ packets_most
  packets_fit = omega (arith, e, (accepted_job j t).few_packets)

  module _ (plan : List ℕ) (c : Lines) (lent : List ℕ) (long : length lent ≡ packets_most) {after : List ℕ} where
    pub starts_fit : after ≡ starts_stored lent (rows_found plan c) → n ≤ length after
    starts_fit s = omega (arith, packets_fit, stored_long (starts_of (rows_found plan c)) lent long s)

    pub ends_fit : after ≡ ends_stored lent (rows_found plan c) → n ≤ length after
    ends_fit s = omega (arith, packets_fit, stored_long (ends_of (rows_found plan c)) lent long s)
