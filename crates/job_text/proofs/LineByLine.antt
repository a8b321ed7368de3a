-- Line by line: what is left to read from a cursor on, with the job so far, and how that ends.
use mathlib.Core.Path.{◌≡◌, sym, ◌∙◌}
use mathlib.Core.List.{List}
use Prim.Native.Nat.{ℕ, suc, ◌+◌, ◌≤◌, ◌<◌}
use native.Mathlib.Omega.{arith}
use native.Mathlib.Decide.{dec_lt}
use borrow.Author.Tests.{lt-ltb, le-ltb, ne_eqb}
use lib.ListN.{length, take, drop, drop_of_length-le}
use Rattle.std.specs.Prelude.{Result, Ok, Err}
use Rattle.rules.specs.Sizes.{text_most}
use Rattle.rules.specs.Network.{Job}
use Rattle.rules.specs.Outcome.{Outcome, onward}
use Rattle.rules.specs.Bytes.{line_feed, split}
use Rattle.rules.specs.JobText.{Line as Said, bad, with_line, with_lines, first_line, all_lines}
use Rattle.theorems.proofs.TextPieces.{split_first}
use Rattle.theorems.specs.TextRest.{with_rest}
use Rattle.job.specs.declared.Job.{Job as Counts}
use Rattle.job.specs.declared.Refusal.{Refusal}
use Rattle.job.specs.declared.Refusal.TheVariants.{BadForm}
use Rattle.lines.specs.declared.reading.Lines.{Lines}
use Rattle.lines.specs.Cursor.{cursor_at, line_after, top_line}
use Rattle.lines.specs.Behind.{line_rest, line_end}
use Rattle.lines.proofs.BehindPlaces.{pieces_whole, pieces_cut, rest-length}
use Rattle.job_text.specs.declared.Line.{Line}
use Rattle.job_text.specs.Told.{Lists, lists, SameLengths}
use Rattle.job_text.specs.LineInText.{said_at, path_of, line_told, LineAs}
use Rattle.job_text.specs.SoFar.{so_far, job_read, Room, Within, Took}
use Rattle.job_text.proofs.Adding.{took_refusal}

-- the line at a place is what comes next; where no line feed ends it, it is bad as a line, and as what is left
module _ (text : List ℕ) (at : ℕ) where
  abbrev below : List (List ℕ)
  below = split line_feed (drop (line_end text at + 1) text)

  next_line : at < length text → (n : ℕ) (j : Job) → with_rest n j (split line_feed (drop at text)) ≡ onward (with_line n j (said_at text at)) (λ k. with_rest (suc n) k below)
  unfolding said_at with_lines with_line
  next_line h n j =
      elim (dec_lt (line_end text at) (length text)) [
        | yes w ↦ (let (q, qs, e) = split_first line_feed (drop (line_end text at + 1) text) in rw (pieces_whole text at w, e, lt-ltb (line_end text at) (length text) w))
        | no w ↦ (
            let c : length text ≤ line_end text at = omega arith in
            let p : (length (line_rest (drop at text)) ≡ 0 → ⊥) = (λ z. omega (arith, rest-length text at, z)) in
            rw (pieces_cut text at c, le-ltb (line_end text at) (length text) c, ne_eqb (length (line_rest (drop at text))) 0 p))
      ]

-- and the line at the top
top_line_lem : (text : List ℕ) → all_lines (split line_feed text) ≡ onward (first_line (said_at text 0)) (λ j. with_rest 2 j (below text 0))
unfolding said_at
top_line_lem text =
    elim (dec_lt (line_end text 0) (length text)) [
      | yes w ↦ (let (q, qs, e) = split_first line_feed (drop (line_end text 0 + 1) text) in rw (pieces_whole text 0 w, e, lt-ltb (line_end text 0) (length text) w))
      | no w ↦ (let c : length text ≤ line_end text 0 = omega arith in rw (pieces_cut text 0 c, le-ltb (line_end text 0) (length text) c))
    ]

pub room_kept : {lent after : Lists} → SameLengths lent after → Room lent → Room after
room_kept s room = record { origins = omega arith; ends = omega arith; sources = omega arith; stops = omega arith; hops = omega arith }

-- where a cursor goes
pub moved_at : {next : Lines} {at line : ℕ} → next ≡ cursor_at at line → next.at ≡ at
moved_at e = rw e

-- what was to be read into the lists that were lent is what is left, with the job that stands in them so far
pub record Going (text : List ℕ) (whole : Outcome Job) (now : Lists) (cursor : Lines) (job : Counts) : Type 0 where
  pub short : length text ≤ text_most
  pub room : Room now
  pub within : Within job
  pub line : cursor.line ≤ cursor.at + 1
  pub left : whole ≡ with_rest cursor.line (so_far job now) (split line_feed (drop cursor.at text))

module _ {text : List ℕ} {whole : Outcome Job} {now : Lists} {cursor : Lines} {job : Counts} (g : Going text whole now cursor job) where
  pub going_end : length text ≤ cursor.at → Took whole (Ok job) now
  unfolding with_lines split
  going_end h = record { read = sym (g.left ∙ rw (drop_of_length-le text h)); within = g.within }

  module _ (h : cursor.at < length text) where
    -- a line that says nothing is of bad form
    pub going_bad : {last : Lists} → said_at text cursor.at ≡ bad → Took whole (Err (BadForm cursor.line)) last
    unfolding with_line
    going_bad b = took_refusal (g.left ∙ next_line text cursor.at h cursor.line (so_far job now) ∙ rw b)

    -- the hops before the path of the line at the cursor stayed
    module _ (hops : List ℕ) {from : ℕ} (k : take from hops ≡ take from now.hops) (e : from ≡ job.hops) where
      abbrev copied : Lists
      copied = lists now.origins now.ends now.sources now.stops hops

      same-so_far : so_far job copied ≡ so_far job now
      same-so_far = let q : take job.hops hops ≡ take job.hops now.hops = rw (← e) k in rw q

      module _ {told : Result Counts Refusal} {after : Lists} (t : Took (with_line cursor.line (so_far job copied) (said_at text cursor.at)) told after) where
        line_left_lem : whole ≡ onward (job_read told after) (λ k. with_rest (suc cursor.line) k (below text cursor.at))
        line_left_lem = g.left ∙ next_line text cursor.at h cursor.line (so_far job now) ∙ rw (← same-so_far, ← t.read)

      pub going_refused : {refusal : Refusal} {after last : Lists} → Took (with_line cursor.line (so_far job copied) (said_at text cursor.at)) (Err refusal) after
          → Took whole (Err refusal) last
      going_refused t = took_refusal (line_left_lem t)

      pub going_on : {more counts : Counts} {after : Lists} (end : ℕ) {next : Lines} → Took (with_line cursor.line (so_far job copied) (said_at text cursor.at)) (Ok more) after
          → counts ≡ more → SameLengths now after → end ≡ line_end text cursor.at → next ≡ cursor_at (end + 1) (line_after cursor.line) → Going text whole after next counts
      going_on end t c s a m =
          let line : line_after cursor.line ≡ suc cursor.line = omega (arith, g.short, g.line) in
          rw (m, c) (record {
            short = g.short;
            room = room_kept s g.room;
            within = t.within;
            line = omega (arith, g.line, rest-length text cursor.at);
            left = line_left_lem t ∙ rw (line, a);
          })

-- ---- the first line

-- the line at the top, and the lines below it
module _ (text : List ℕ) where
  pub first_bad : {last : Lists} → said_at text 0 ≡ bad → Took (all_lines (split line_feed text)) (Err (BadForm 1)) last
  first_bad b = took_refusal (top_line_lem text ∙ rw b)

  module _ {told : Result Counts Refusal} {after : Lists} (t : Took (first_line (said_at text 0)) told after) where
    below_first : all_lines (split line_feed text) ≡ onward (job_read told after) (λ j. with_rest 2 j (below text 0))
    below_first = top_line_lem text ∙ rw (← t.read)

  pub first_refused : {refusal : Refusal} {after last : Lists} → Took (first_line (said_at text 0)) (Err refusal) after → Took (all_lines (split line_feed text)) (Err refusal) last
  first_refused t = took_refusal (below_first t)

  -- the cursor goes to line 2
  pub first_on : {counts : Counts} {after : Lists} {end : ℕ} {top next : Lines} → Took (first_line (said_at text 0)) (Ok counts) after → end ≡ line_end text 0
      → top ≡ top_line → next ≡ cursor_at (end + 1) (line_after top.line)
      → all_lines (split line_feed text) ≡ with_rest next.line (so_far counts after) (split line_feed (drop next.at text))
  first_on t a b m = below_first t ∙ rw (m, b, a)

pub first_took : {said : Said} {told : Line} {hops : List ℕ} {from : ℕ} {r : Result Counts Refusal} → LineAs said told hops from
    → ((path : List ℕ) (l : Lists) → Took (first_line (line_told path told)) r l) → (l : Lists) → Took (first_line said) r l
first_took {said} a t l = rw (sym a.says) (t (path_of said) l)
