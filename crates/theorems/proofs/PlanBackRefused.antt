-- By which numbers a plan's text is refused, for a job that is accepted, and where: 1 and 11 at 0, and 2, 12 and 14 at one of its lines
-- or at the line after them.
use mathlib.Core.Path.{◌≡◌, refl, ap}
use mathlib.Core.Bool.{Bool, true, false, ◌&&◌}
use mathlib.Core.List.{List, [], ◌∷◌}
use mathlib.Core.Logic.{◌↔◌, ◌⊎◌, inl, inr}
use mathlib.Core.Option.{Option, none, some}
use Prim.Native.Nat.{ℕ, suc, ◌+◌, ◌≤◌, ◌<◌}
use native.Mathlib.Omega.{arith}
use lib.Dec.{eqb, leb}
use lib.ListN.{length, drop, length-drop}
use borrow.Author.Tests.{lt-leb, leb-false}
use Rattle.counting.specs.Count.{among, pick}
use Rattle.rules.specs.Sizes.{text_most, start_most}
use Rattle.rules.specs.Network.{Job, paths}
use Rattle.rules.specs.Travel.{delay_in}
use Rattle.rules.specs.Outcome.{is, refused, must, ◌then◌, onward}
use Rattle.rules.specs.Tables.{tables}
use Rattle.rules.specs.Counts.{end_of, routing_time, congestion, dilation}
use Rattle.rules.specs.Bytes.{line_feed, letter_s, letter_t, split, begins}
use Rattle.rules.specs.PlanBack.{Three, three_of, ended, Row, row_of, rows_from, nothing, totals_of, last_line}
use Rattle.rules.specs.PlanBack.{rows_verdict, starts_of, totals_verdict, followed, with_rows, read_back}
use Rattle.theorems.specs.Jobs.{IsJob}
use Rattle.theorems.specs.TextNumbers.{plan_numbers, RefusedBy}
use Rattle.theorems.proofs.Verdicts.{is_iff, refused_not_is, onward_is}
use Rattle.theorems.proofs.Refusals.{Refusals, value, refusal, in_turn, onwards, test_refused, refused_by}
use Rattle.theorems.proofs.Accepted.{tables-fine-iff}
use Rattle.theorems.proofs.TextPieces.{split_first}

-- the whole plan is refused, at 0, by 1 only if it is too long; or a line of it
abbrev WholePlan : Type 0 → ℕ → Type 0
WholePlan Long n = (Long × (n ≡ 1)) ⊎ (n ≡ 11)

abbrev PlanLine : ℕ → Type 0
PlanLine n = (n ≡ 2) ⊎ ((n ≡ 12) ⊎ (n ≡ 14))

module _ (Long : Type 0) (last : ℕ) where
  abbrev OfPlan : ℕ → ℕ → Type 0
  OfPlan n p = (WholePlan Long n × (p ≡ 0)) ⊎ (PlanLine n × (1 ≤ p) × (p ≤ last))

  -- ---- the S lines

  row_refused : (k : ℕ) (o : Option Three) → suc k ≤ last → Refusals OfPlan (row_of k o)
  row_refused k none l = refusal (inr (inl refl, omega arith, l))
  row_refused k (some t) l = in_turn (test_refused (eqb t.first k) 2 (suc k) (inr (inl refl, omega arith, l))) value

  rows_refused : (k : ℕ) (ps : List (List ℕ)) → k + length ps ≤ last → Refusals OfPlan (rows_from k ps)
  unfolding rows_from
  rows_refused k [] l = value
  rows_refused k (p ∷ ps) l = go (begins letter_s p) (rows_refused (suc k) ps (omega (arith, l)))
    where
      go : (t : Bool) → Refusals OfPlan (rows_from (suc k) ps)
          → Refusals OfPlan
          (pick t (onward (row_of k (ended ps (three_of letter_s p))) (λ row. onward (rows_from (suc k) ps) (λ rows. is (row ∷ rows)))) (is []))
      go true r = onwards (row_refused k (ended ps (three_of letter_s p)) (omega (arith, l))) (λ row e. onwards r (λ rows f. value))
      go false r = value

  -- ---- the T line

  totals_refused : (n : ℕ) (o : Option Three) → 1 ≤ n → n ≤ last → Refusals OfPlan (totals_of n o)
  totals_refused n none h l = refusal (inr (inl refl, h, l))
  totals_refused n (some t) h l = value

  last_refused : (n : ℕ) (ps : List (List ℕ)) → 1 ≤ n → n ≤ last → n + length ps ≤ suc last → Refusals OfPlan (last_line n ps)
  unfolding last_line
  last_refused n [] h l m = refusal (inr (inl refl, h, l))
  last_refused n (p ∷ []) h l m = refusal (inr (inl refl, h, l))
  last_refused n (p ∷ q ∷ ps) h l m =
      onwards (totals_refused n (three_of letter_t p) h l)
      (λ t e. in_turn (test_refused (nothing (q ∷ ps)) 2 (suc n) (inr (inl refl, omega arith, omega (arith, m)))) value)

  -- ---- what does not follow

  rows_verdict_refused : (delay : ℕ → ℕ) (n : ℕ) (rows : List Row) (ps : List (List ℕ)) → 1 ≤ n → n + length rows ≤ suc last
      → Refusals OfPlan (rows_verdict delay n rows ps)
  unfolding rows_verdict
  rows_verdict_refused delay n [] ps h l = value
  rows_verdict_refused delay n (r ∷ rows) [] h l = value
  rows_verdict_refused delay n (r ∷ rows) (p ∷ ps) h l =
      let near : n ≤ last = omega (arith, l) in
      in_turn (test_refused (leb r.start start_most) 12 n (inr (inr (inl refl), h, near)))
      (in_turn (test_refused (eqb r.end (end_of delay r.start p)) 14 n (inr (inr (inr refl), h, near)))
      (rows_verdict_refused delay (suc n) rows ps (omega arith) (omega (arith, l))))

  totals_verdict_refused : (n : ℕ) (j : Job) (ss : List ℕ) (t : Three) → 1 ≤ n → n ≤ last → Refusals OfPlan (totals_verdict n j ss t)
  unfolding totals_verdict
  totals_verdict_refused n j ss t h l =
      let follow = eqb t.first (routing_time (delay_in j) ss (paths j)) && eqb t.second (congestion j) && eqb t.third (dilation j) in
      test_refused follow 14 n (inr (inr (inr refl), h, l))

  followed_refused : (j : Job) (rows : List Row) (t : Three) → suc (length rows) ≤ last → Refusals OfPlan (followed j rows t)
  unfolding followed
  followed_refused j rows t l =
      in_turn (rows_verdict_refused (delay_in j) 1 rows (paths j) (omega arith) (omega (arith, l)))
      (in_turn (totals_verdict_refused (suc (length rows)) j (starts_of rows) t (omega arith) l) value)

  -- ---- the whole

  with_rows_refused : (j : Job) (pieces : List (List ℕ)) (rows : List Row) → suc (length rows) ≤ length pieces → length pieces ≤ last
      → Refusals OfPlan (with_rows j pieces rows)
  unfolding with_rows
  with_rows_refused j pieces rows l m =
      let line = suc (length rows) in
      let near : line ≤ last = omega (arith, l, m) in
      let left : line + length (drop (length rows) pieces) ≤ suc last = omega (arith, l, m, length-drop (length rows) pieces) in
      in_turn (test_refused (eqb (length rows) (length j.sources)) 11 0 (inl (inr refl, refl)))
      (onwards (last_refused line (drop (length rows) pieces) (omega arith) near left) (λ t e. followed_refused j rows t near))

-- there are fewer rows than pieces: what follows the last line feed is none
rows_fewer : (k : ℕ) (p : List ℕ) (ps : List (List ℕ)) (rows : List Row) → rows_from k (p ∷ ps) ≡ is rows → length rows ≤ length ps
unfolding rows_from
rows_fewer k p [] rows e = go (begins letter_s p) e
  where
    go : (t : Bool) → pick t (refused 2 (suc k)) (is []) ≡ is rows → length rows ≤ 0
    go true e = absurd (refused_not_is e)
    go false e = omega (arith, ap length (is_iff.0 e))
rows_fewer k p (q ∷ qs) rows e = go (begins letter_s p) e (rows_fewer (suc k) q qs)
  where
    go : (t : Bool)
        → pick t (onward (row_of k (three_of letter_s p)) (λ row. onward (rows_from (suc k) (q ∷ qs)) (λ rows. is (row ∷ rows)))) (is []) ≡ is rows
        → ((more : List Row) → rows_from (suc k) (q ∷ qs) ≡ is more → length more ≤ length qs) → length rows ≤ suc (length qs)
    go true e r =
        let (row, a, b) = onward_is (row_of k (three_of letter_s p)) _ e in
        let (more, c, d) = onward_is (rows_from (suc k) (q ∷ qs)) _ b in
        omega (arith, r more c, ap length (is_iff.0 d))
    go false e r = omega (arith, ap length (is_iff.0 e))

text_rows_fewer : (text : List ℕ) (rows : List Row) → rows_from 0 (split line_feed text) ≡ is rows → length rows < length (split line_feed text)
text_rows_fewer text rows said =
    let (p, ps, e) = split_first line_feed text in
    omega (arith, ap length e, rows_fewer 0 p ps rows (rw e at said))

module _ (j : Job) (text : List ℕ) where
  -- for lists that are no job, the job's own refusal
  pub read_back_of_no_job : {n p : ℕ} → tables j ≡ refused n p → read_back j text ≡ refused n p
  unfolding read_back
  read_back_of_no_job e = rw e

  module _ (job : IsJob j) where
    abbrev TooLong : Type 0
    TooLong = text_most < length text

    of_plan_lem : Refusals (OfPlan TooLong (length (split line_feed text))) (read_back j text)
    unfolding read_back
    of_plan_lem = rw ((tables-fine-iff j).1 job) (go (leb (length text) text_most) refl)
      where
        lines : Refusals (OfPlan TooLong (length (split line_feed text))) (onward (rows_from 0 (split line_feed text)) (with_rows j (split line_feed text)))
        lines =
            let pieces = split line_feed text in
            onwards (rows_refused TooLong (length pieces) 0 pieces (omega arith))
            (λ rows said. with_rows_refused TooLong (length pieces) j pieces rows (text_rows_fewer text rows said) (omega arith))

        go : (t : Bool) → leb (length text) text_most ≡ t
            → Refusals (OfPlan TooLong (length (split line_feed text)))
            (must t 1 0 then onward (rows_from 0 (split line_feed text)) (with_rows j (split line_feed text)))
        go true e = lines
        go false e = refusal (inl (inl (leb-false (length text) text_most e, refl), refl))

    -- 1 exactly if the text is too long, whatever stands in it
    pub read_back_too_long_iff : (read_back j text ≡ refused 1 0) ↔ TooLong
    unfolding read_back
    read_back_too_long_iff = (λ e. go (of_plan_lem.each e), λ l. rw ((tables-fine-iff j).1 job, lt-leb (length text) text_most l))
      where
        go : {last : ℕ} → OfPlan TooLong last 1 0 → TooLong
        go (inl (inl (l, e), z)) = l
        go (inl (inr e, z)) = absurd (omega (arith, e))
        go (inr (a, l, m)) = absurd (omega (arith, l))

    -- one of the plan's numbers, and a place up to the number of pieces between line feeds: the plan's lines, and one
    pub read_back_refused : RefusedBy plan_numbers (length (split line_feed text)) (read_back j text)
    read_back_refused = refused_by (record { each = λ e. go (of_plan_lem.each e) })
      where
        go : {last n p : ℕ} → OfPlan TooLong last n p → (among n plan_numbers ≡ true) × (p ≤ last)
        go (inl (inl (long, e), z)) = (rw e, omega (arith, z))
        go (inl (inr e, z)) = (rw e, omega (arith, z))
        go (inr (inl e, l, m)) = (rw e, m)
        go (inr (inr (inl e), l, m)) = (rw e, m)
        go (inr (inr (inr e), l, m)) = (rw e, m)

    -- the place is 0 exactly for 1 and 11: all else is about a line
    pub read_back-place-zero-iff : {n p : ℕ} → read_back j text ≡ refused n p → (p ≡ 0) ↔ ((n ≡ 1) ⊎ (n ≡ 11))
    read_back-place-zero-iff {n} {p} e = go (of_plan_lem.each e)
      where
        other : PlanLine n → (n ≡ 1) ⊎ (n ≡ 11) → ⊥
        other (inl a) (inl b) = omega arith
        other (inl a) (inr b) = omega arith
        other (inr (inl a)) (inl b) = omega arith
        other (inr (inl a)) (inr b) = omega arith
        other (inr (inr a)) (inl b) = omega arith
        other (inr (inr a)) (inr b) = omega arith

        go : {last : ℕ} → OfPlan TooLong last n p → (p ≡ 0) ↔ ((n ≡ 1) ⊎ (n ≡ 11))
        go (inl (inl (long, e), z)) = (λ p. inl e, λ h. z)
        go (inl (inr e, z)) = (λ p. inr e, λ h. z)
        go (inr (a, l, m)) = (λ z. absurd (omega (arith, l, z)), λ w. absurd (other a w))
