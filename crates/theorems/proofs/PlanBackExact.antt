-- A plan read back: the reader accepts exactly the plans that the writer writes, and the starts that it says are those that were
-- written.
use mathlib.Core.Path.{◌≡◌, refl, sym, ap, ◌∙◌}
use mathlib.Core.Bool.{Bool, true, false, false≢true}
use mathlib.Core.List.Memᴰ
use mathlib.Core.List.Memᴰ.{head as here}
use mathlib.Core.List.Memᴰ.{tail as there}
use mathlib.Core.List.{List, [], ◌∷◌, ◌++◌, append-nil, append_assoc, Memᴰ}
use mathlib.Core.Logic.Iff
use mathlib.Core.Logic.{◌↔◌}
use mathlib.Core.Option.{Option, none, some}
use Prim.Native.Nat.{ℕ, suc, ◌+◌, ◌≤◌}
use native.Mathlib.Omega.{arith}
use lib.ListN.{length, drop, length-map}
use borrow.Author.Tests.{eq-eqb}
use Rattle.counting.specs.Count.{pick}
use Rattle.counting.proofs.Places.{none_not_some}
use Rattle.rules.specs.Sizes.{text_most, start_most, number_most}
use Rattle.rules.specs.Network.{Job, paths}
use Rattle.rules.specs.Travel.{delay_in, travel}
use Rattle.rules.specs.Outcome.{Outcome, is, fine, onward}
use Rattle.rules.specs.Counts.{end_of, routing_time, congestion, dilation}
use Rattle.rules.specs.Bytes.{line_feed, letter_s, letter_t, line_text, split, begins}
use Rattle.rules.specs.PlanText.{packet_lines, text_of_plan}
use Rattle.rules.specs.PlanBack.{Three, three_of, ended, Row, row_of, rows_from, nothing, totals_of, last_line}
use Rattle.rules.specs.PlanBack.{rows_verdict, starts_of, totals_verdict, followed, with_rows, read_back}
use Rattle.rules.specs.Answers.{started_verdict, in_room, plan_read_in}
use Rattle.theorems.specs.Jobs.{IsJob}
use Rattle.theorems.proofs.Verdicts.{leb_iff, eqb_iff, and_iff, is_iff, refused_not_is, must-iff, then_iff, onward_is, onward_of}
use Rattle.theorems.proofs.Accepted.{tables-fine-iff, length-paths}
use Rattle.theorems.proofs.Travels.{PathsFit, travel-le_hops}
use Rattle.theorems.proofs.PlanLength.{StartsFit, ends_le, congestion-le, dilation-le}
use Rattle.theorems.proofs.Started.{started_fine-iff, paths_short, started_plan_length}
use Rattle.theorems.proofs.AnswersInARow.{room_iff}
use Rattle.theorems.proofs.TextPieces.{each_after, split_first, split-joined}
use Rattle.theorems.proofs.TextLines.{line_bytes, Sayable, split_line}
use Rattle.theorems.proofs.PlanLines.{three_text, three_of-bytes, three_says}

-- ---- an accepted text is what the writer writes

-- pieces put together again
abbrev joined : List (List ℕ) → List ℕ
joined [] = []
joined (p ∷ ps) = p ++ each_after line_feed ps

joined-split : (bs : List ℕ) → joined (split line_feed bs) ≡ bs
joined-split bs = let (p, ps, e) = split_first line_feed bs in rw e (sym (split-joined line_feed bs p ps e))

-- a row as the three numbers of packet k's line
abbrev three_of_row : ℕ → Row → Three
three_of_row k r = record { first = k; second = r.start; third = r.end }

-- the lines of rows, from packet k on
abbrev rows_text : ℕ → List Row → List ℕ
rows_text k [] = []
rows_text k (r ∷ rows) = three_text letter_s (three_of_row k r) ++ rows_text (suc k) rows

-- a line that is ended, before the pieces behind it
joined-ended : (letter : ℕ) (p : List ℕ) (ps : List (List ℕ)) {t : Three} → ended ps (three_of letter p) ≡ some t
    → joined (p ∷ ps) ≡ three_text letter t ++ joined ps
joined-ended letter p [] e = absurd (none_not_some e)
joined-ended letter p (q ∷ qs) {t} e = rw (← three_says letter p t e) (simp append_assoc)

row_is : (k : ℕ) (o : Option Three) {r : Row} → row_of k o ≡ is r → o ≡ some (three_of_row k r)
row_is k none e = absurd (refused_not_is e)
row_is k (some t) e =
    let (same, made) = (then_iff (must-iff _ _ (eqb_iff t.first k)) is_iff).0 e in
    rw (← made, ← same)

-- the pieces are the lines of the rows that they say, and what is left
rows_text_lem : (k : ℕ) (ps : List (List ℕ)) (rows : List Row) → rows_from k ps ≡ is rows → joined ps ≡ rows_text k rows ++ joined (drop (length rows) ps)
unfolding rows_from
rows_text_lem k [] rows e = rw (← is_iff.0 e)
rows_text_lem k (p ∷ ps) rows e = go (begins letter_s p) e (rows_text_lem (suc k) ps)
  where
    go : (t : Bool)
        → pick t (onward (row_of k (ended ps (three_of letter_s p))) (λ row. onward (rows_from (suc k) ps) (λ rows. is (row ∷ rows)))) (is []) ≡ is rows
        → ((rows : List Row) → rows_from (suc k) ps ≡ is rows → joined ps ≡ rows_text (suc k) rows ++ joined (drop (length rows) ps))
        → joined (p ∷ ps) ≡ rows_text k rows ++ joined (drop (length rows) (p ∷ ps))
    go false e r = rw (← is_iff.0 e)
    go true e r =
        let (row, a, b) = onward_is (row_of k (ended ps (three_of letter_s p))) _ e in
        let (more, c, d) = onward_is (rows_from (suc k) ps) _ b in
        rw (← is_iff.0 d) (joined-ended letter_s p ps (row_is k _ a) ∙ rw (r more c) (simp append_assoc))

totals_is : (n : ℕ) (o : Option Three) {t : Three} → totals_of n o ≡ is t → o ≡ some t
totals_is n none e = absurd (refused_not_is e)
totals_is n (some u) e = ap some (is_iff.0 e)

nothing-joined : (ps : List (List ℕ)) → nothing ps ≡ true → joined ps ≡ []
nothing-joined [] e = refl
nothing-joined ([] ∷ []) e = refl
nothing-joined ([] ∷ q ∷ ps) e = absurd (false≢true e)
nothing-joined ((b ∷ bs) ∷ ps) e = absurd (false≢true e)

last_text : (n : ℕ) (ps : List (List ℕ)) (t : Three) → last_line n ps ≡ is t → joined ps ≡ three_text letter_t t
unfolding last_line
last_text n [] t e = absurd (refused_not_is e)
last_text n (p ∷ ps) t e =
    let (u, a, b) = onward_is (totals_of n (ended ps (three_of letter_t p))) _ e in
    let (none_left, same) = (then_iff (must-iff 2 (suc n) Iff.rfl) is_iff).0 b in
    rw (← same, joined-ended letter_t p ps (totals_is n _ a), nothing-joined ps none_left, append-nil)

module _ (delay : ℕ → ℕ) where
  row_fine-iff : (n : ℕ) (r : Row) (rows : List Row) (p : List ℕ) (ps : List (List ℕ)) → (rows_verdict delay n (r ∷ rows) (p ∷ ps) ≡ fine)
      ↔ ((r.start ≤ start_most) × ((r.end ≡ end_of delay r.start p) × (rows_verdict delay (suc n) rows ps ≡ fine)))
  unfolding rows_verdict
  row_fine-iff n r rows p ps = then_iff (must-iff _ _ (leb_iff _ _)) (then_iff (must-iff _ _ (eqb_iff _ _)) Iff.rfl)

  -- rows that follow from their starts are the lines that the writer writes
  rows_written : (k n : ℕ) (rows : List Row) (ps : List (List ℕ)) → length rows ≡ length ps → rows_verdict delay n rows ps ≡ fine
      → rows_text k rows ≡ packet_lines delay k (starts_of rows) ps
  unfolding packet_lines
  rows_written k n [] ps c e = refl
  rows_written k n (r ∷ rows) [] c e = absurd (omega arith)
  rows_written k n (r ∷ rows) (p ∷ ps) c e =
      let (in_time, (follows, rest)) = (row_fine-iff n r rows p ps).0 e in
      rw (follows, rows_written (suc k) (suc n) rows ps (omega arith) rest)

  rows_in_time : (n : ℕ) (rows : List Row) (ps : List (List ℕ)) → length rows ≡ length ps → rows_verdict delay n rows ps ≡ fine
      → StartsFit (starts_of rows)
  rows_in_time n [] ps c e s m = absurd (Memᴰ.not-nil m)
  rows_in_time n (r ∷ rows) [] c e s m = absurd (omega arith)
  rows_in_time n (r ∷ rows) (p ∷ ps) c e s m =
      let (in_time, (follows, rest)) = (row_fine-iff n r rows p ps).0 e in
      go in_time (rows_in_time (suc n) rows ps (omega arith) rest) m
    where
      go : r.start ≤ start_most → StartsFit (starts_of rows) → Memᴰ s (r.start ∷ starts_of rows) → s ≤ start_most
      go h f (here e) = rw e h
      go h f (there m) = f s m

-- the whole, part by part
read_back-iff : (j : Job) (text ss : List ℕ) → (read_back j text ≡ is ss)
    ↔ (IsJob j × ((length text ≤ text_most) × (onward (rows_from 0 (split line_feed text)) (with_rows j (split line_feed text)) ≡ is ss)))
unfolding read_back
read_back-iff j text ss = then_iff (tables-fine-iff j) (then_iff (must-iff _ _ (leb_iff _ _)) Iff.rfl)

with_rows-iff : (j : Job) (pieces : List (List ℕ)) (rows : List Row) (ss : List ℕ) → (with_rows j pieces rows ≡ is ss)
    ↔ ((length rows ≡ length j.sources) × (onward (last_line (suc (length rows)) (drop (length rows) pieces)) (followed j rows) ≡ is ss))
unfolding with_rows
with_rows-iff j pieces rows ss = then_iff (must-iff _ _ (eqb_iff _ _)) Iff.rfl

-- the T line says what follows from starts
abbrev Follows : Job → List ℕ → Three → Type 0
Follows j ss t = ((t.first ≡ routing_time (delay_in j) ss (paths j)) × (t.second ≡ congestion j)) × (t.third ≡ dilation j)

pub followed-iff : (j : Job) (rows : List Row) (t : Three) (ss : List ℕ) → (followed j rows t ≡ is ss)
    ↔ ((rows_verdict (delay_in j) 1 rows (paths j) ≡ fine) × (Follows j (starts_of rows) t × (starts_of rows ≡ ss)))
unfolding followed totals_verdict
followed-iff j rows t ss = then_iff Iff.rfl (then_iff (must-iff _ _ (and_iff (and_iff (eqb_iff _ _) (eqb_iff _ _)) (eqb_iff _ _))) is_iff)

-- what an accepted text says
record Accepted (j : Job) (text ss : List ℕ) : Type 0 where
  job : IsJob j
  rows : List Row
  totals : Three
  said : rows_from 0 (split line_feed text) ≡ is rows
  count : length rows ≡ length j.sources
  last : last_line (suc (length rows)) (drop (length rows) (split line_feed text)) ≡ is totals
  rows_follow : rows_verdict (delay_in j) 1 rows (paths j) ≡ fine
  totals_follow : Follows j (starts_of rows) totals
  starts : starts_of rows ≡ ss

accepted : (j : Job) (text ss : List ℕ) → read_back j text ≡ is ss → Accepted j text ss
accepted j text ss e =
    let pieces = split line_feed text in
    let (job, (short, lines)) = (read_back-iff j text ss).0 e in
    let (rows, said, on) = onward_is (rows_from 0 pieces) (with_rows j pieces) lines in
    let (count, rest) = (with_rows-iff j pieces rows ss).0 on in
    let (totals, last, judged) = onward_is (last_line (suc (length rows)) (drop (length rows) pieces)) (followed j rows) rest in
    let (rows_follow, (totals_follow, starts)) = (followed-iff j rows totals ss).0 judged in
    record {
      job = job;
      rows = rows;
      totals = totals;
      said = said;
      count = count;
      last = last;
      rows_follow = rows_follow;
      totals_follow = totals_follow;
      starts = starts;
    }

count_rows : {j : Job} {text ss : List ℕ} (a : Accepted j text ss) → length a.rows ≡ length (paths j)
count_rows {j} a = omega (arith, a.count, length-paths j, a.job.stops_count)

-- what an accepted text says, the writer writes as just this text
pub read_back_text : (j : Job) (text ss : List ℕ) → read_back j text ≡ is ss → text_of_plan j ss ≡ text
unfolding text_of_plan
read_back_text j text ss e =
    let a = accepted j text ss e in
    let ((time, most), longest) = a.totals_follow in
    rw (
      ← joined-split text,
      rows_text_lem 0 (split line_feed text) a.rows a.said,
      last_text _ _ a.totals a.last,
      rows_written (delay_in j) 0 1 a.rows (paths j) (count_rows a) a.rows_follow,
      time,
      most,
      longest,
      a.starts,
    )

-- its starts are starts that the check, the lead and the writer take
pub read_back_started : (j : Job) (text ss : List ℕ) → read_back j text ≡ is ss → started_verdict j ss ≡ fine
read_back_started j text ss e =
    let a = accepted j text ss e in
    (started_fine-iff j ss).1 (rw (← a.starts) (record {
      job = a.job;
      count = omega (arith, a.count, length-map a.rows (λ r. r.start));
      in_time = rows_in_time (delay_in j) 1 a.rows (paths j) (count_rows a) a.rows_follow;
    }))

-- ---- what the writer writes is accepted

onward_to : {A B : Type 0} {o : Outcome A} {a : A} (f : A → Outcome B) {b : B} → o ≡ is a → f a ≡ is b → onward o f ≡ is b
onward_to f e g = onward_of e f ∙ g

ended-split : {A : Type 0} (bs : List ℕ) (o : Option A) → ended (split line_feed bs) o ≡ o
ended-split bs o = let (q, qs, e) = split_first line_feed bs in rw e

sayable_three : {a b c : ℕ} → a ≤ number_most → b ≤ number_most → c ≤ number_most → Sayable (a ∷ b ∷ c ∷ [])
sayable_three f g h n (here e) = omega arith
sayable_three f g h n (there (here e)) = omega arith
sayable_three f g h n (there (there (here e))) = omega arith
sayable_three {a = a} {b = b} {c = c} f g h n (there (there (there m))) = elim m [ ]

module _ (delay : ℕ → ℕ) where
  -- a row for each start and path
  abbrev rows_of : List ℕ → List (List ℕ) → List Row
  rows_of [] ps = []
  rows_of (s ∷ ss) [] = []
  rows_of (s ∷ ss) (p ∷ ps) = record { start = s; end = end_of delay s p } ∷ rows_of ss ps

  starts_of_rows : (ss : List ℕ) (ps : List (List ℕ)) → length ss ≡ length ps → starts_of (rows_of ss ps) ≡ ss
  starts_of_rows [] ps c = refl
  starts_of_rows (s ∷ ss) [] c = absurd (omega arith)
  starts_of_rows (s ∷ ss) (p ∷ ps) c = ap (λ (ss : List ℕ). s ∷ ss) (starts_of_rows ss ps (omega arith))

  rows_fine : (n : ℕ) (ss : List ℕ) (ps : List (List ℕ)) → StartsFit ss → rows_verdict delay n (rows_of ss ps) ps ≡ fine
  unfolding rows_verdict
  rows_fine n [] ps f = refl
  rows_fine n (s ∷ ss) [] f = refl
  rows_fine n (s ∷ ss) (p ∷ ps) f =
      (row_fine-iff delay n _ (rows_of ss ps) p ps).1 (f s (here refl), (refl, rows_fine (suc n) ss ps (λ t m. f t (there m))))

  -- before bytes whose first line does not begin with S
  module _ (bs q : List ℕ) (qs : List (List ℕ)) (first : split line_feed bs ≡ q ∷ qs) (other : begins letter_s q ≡ false) where
    rows_end : (k : ℕ) → rows_from k (split line_feed bs) ≡ is []
    unfolding rows_from
    rows_end k = rw (first, other)

    -- the packets' lines are read as their rows, and the bytes are left
    rows_read : (k : ℕ) (ss : List ℕ) (ps : List (List ℕ)) → k + length ss ≤ number_most → StartsFit ss → PathsFit delay ps
        → (rows_from k (split line_feed (packet_lines delay k ss ps ++ bs)) ≡ is (rows_of ss ps))
        × (drop (length (rows_of ss ps)) (split line_feed (packet_lines delay k ss ps ++ bs)) ≡ split line_feed bs)
    unfolding packet_lines rows_from end_of
    rows_read k [] ps l f g = (rows_end k, refl)
    rows_read k (s ∷ ss) [] l f g = (rows_end k, refl)
    rows_read k (s ∷ ss) (p ∷ ps) l f g =
        let (read, left) = rows_read (suc k) ss ps (omega arith) (λ t m. f t (there m)) (λ r m. g r (there m)) in
        let start = f s (here refl) in
        let (short, delayed) = g p (here refl) in
        let steps = travel-le_hops delay p delayed in
        let ns = k ∷ s ∷ (s + travel delay p) ∷ [] in
        let said = three_of-bytes letter_s ns (omega arith) (sayable_three (omega arith) (omega arith) (omega arith)) in
        rw (append_assoc, split_line letter_s ns (packet_lines delay (suc k) ss ps ++ bs) (omega arith))
        (rw (ended-split (packet_lines delay (suc k) ss ps ++ bs), said, eq-eqb k k refl, read), left)

last_read : (n : ℕ) (ns : List ℕ) (t : Three) → three_of letter_t (line_bytes letter_t ns) ≡ some t
    → last_line n (split line_feed (line_text letter_t ns)) ≡ is t
unfolding last_line split
last_read n ns t e = rw (← append-nil (line_text letter_t ns), split_line letter_t ns [] (omega arith), e)

-- what the writer wrote, of whatever starts it takes, reads back as the same starts
pub plan_reads_back : (j : Job) (ss : List ℕ) → started_verdict j ss ≡ fine → read_back j (text_of_plan j ss) ≡ is ss
unfolding text_of_plan
plan_reads_back j ss e =
    let h = (started_fine-iff j ss).0 e in
    let job = h.job in
    let ps = paths j in
    let rows = rows_of (delay_in j) ss ps in
    let fit = paths_short j job in
    let counted : length ss ≡ length ps = omega (arith, h.count, length-paths j, job.stops_count) in
    let time = routing_time (delay_in j) ss ps in
    let ns = time ∷ congestion j ∷ dilation j ∷ [] in
    let totals : Three = record { first = time; second = congestion j; third = dilation j } in
    let time_le : time ≤ number_most = omega (arith, ends_le (delay_in j) ss ps h.in_time fit) in
    let most_le : congestion j ≤ number_most = omega (arith, congestion-le j, h.count, job.few_packets) in
    let longest_le : dilation j ≤ number_most = omega (arith, dilation-le j fit) in
    let say = sayable_three time_le most_le longest_le in
    let first = rw append-nil at (split_line letter_t ns [] (omega arith)) in
    let few : 0 + length ss ≤ number_most = omega (arith, h.count, job.few_packets) in
    let (read, left) = rows_read (delay_in j) (line_text letter_t ns) _ _ first refl 0 ss ps few h.in_time fit in
    let last = last_read (suc (length rows)) ns totals (three_of-bytes letter_t ns (omega arith) say) in
    let same = starts_of_rows (delay_in j) ss ps counted in
    let as_many : length rows ≡ length j.sources = omega (arith, ap length same, length-map rows (λ r. r.start), h.count) in
    let fine_rows = rows_fine (delay_in j) 1 ss ps h.in_time in
    let judged = (followed-iff j rows totals ss).1 (fine_rows, (((rw same, refl), refl), same)) in
    (read_back-iff j (text_of_plan j ss) ss).1 (
      job,
      (
        omega (arith, started_plan_length j ss e),
        onward_to (with_rows j (split line_feed (text_of_plan j ss))) read
            ((with_rows-iff j _ rows ss).1 (as_many, rw left (onward_to (followed j rows) last judged))),
      ),
    )

-- so a text says starts exactly if the writer takes these starts and the text is what it writes
pub read_back_exactly : (j : Job) (text ss : List ℕ) → (read_back j text ≡ is ss) ↔ ((started_verdict j ss ≡ fine) × (text ≡ text_of_plan j ss))
read_back_exactly j text ss = (λ e. (read_back_started j text ss e, sym (read_back_text j text ss e)), λ h. rw h.1 (plan_reads_back j ss h.0))

-- no two starts that the writer takes have one plan text
pub plan_text_injective : (j : Job) (ss ts : List ℕ) → started_verdict j ss ≡ fine → started_verdict j ts ≡ fine
    → text_of_plan j ss ≡ text_of_plan j ts → ss ≡ ts
plan_text_injective j ss ts a b e = is_iff.0 (sym (plan_reads_back j ss a) ∙ rw e (plan_reads_back j ts b))

-- with room for so many starts, the same texts are accepted, where the room holds the starts
pub plan_read_in-iff : (j : Job) (text : List ℕ) (room : ℕ) (ss : List ℕ)
    → (plan_read_in j text room ≡ is ss) ↔ ((started_verdict j ss ≡ fine) × (text ≡ text_of_plan j ss) × (length ss ≤ room))
unfolding plan_read_in in_room
plan_read_in-iff j text room ss = (
  λ e.
      let (ts, read, fits) = onward_is (read_back j text) (λ starts. in_room starts room) e in
      let (f, l, same) = (room_iff fine (length ts) room ts ss).0 fits in
      let (started, written) = (read_back_exactly j text ss).0 (rw same read) in
      (started, written, rw same l),
  λ (started, written, l).
      let fits = (room_iff fine (length ss) room ss ss).1 (refl, l, refl) in
      onward_to (λ starts. in_room starts room) ((read_back_exactly j text ss).1 (started, written)) fits,
)
