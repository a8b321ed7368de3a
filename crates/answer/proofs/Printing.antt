-- From the answer from bytes to what is printed, in a room that every plan fits.
use mathlib.Core.Path.{◌≡◌, refl, sym, ◌∙◌}
use mathlib.Core.Bool.{true}
use mathlib.Core.List.{List, [], ◌∷◌}
use Prim.Native.Nat.{ℕ, ◌≤◌}
use native.Mathlib.Nat.{zero-add}
use native.Mathlib.Omega.{arith}
use lib.Dec.{leb}
use lib.ListN.{length, take, drop, length-append}
use lib.Seq.{sets-eq, take-append_seam}
use borrow.Author.Tests.{le-leb}
use Rattle.std.specs.Prelude.{Ok, Err}
use Rattle.rules.specs.Sizes.{plan_most}
use Rattle.rules.specs.Outcome.{Outcome, is, refused, onward}
use Rattle.rules.specs.Bytes.{letter_r, line_text}
use Rattle.rules.specs.Answers.{in_room, lent_after, answer, answered, printed, plans}
use Rattle.theorems.proofs.Verdicts.{refused_not_is, refused_same, is_iff}
use Rattle.theorems.proofs.Started.{answer-length}
use Rattle.theorems.proofs.TextRefusals.{plans-length}
use Rattle.job.specs.declared.Refusal.{Refusal}
use Rattle.job.specs.Told.{number_place}
use Rattle.lines.specs.Put.{Put}
use Rattle.plan_text.specs.Told.{WrittenAs}
use Rattle.answer.specs.Told.{PrintedAs}

pub printed_fits : {text lent after : List ℕ} {count : ℕ} → PrintedAs text count lent after → count ≤ length after
unfolding lent_after
printed_fits {text} {lent} p = rw p.room (omega (arith, p.bytes, length-append text (drop (length text) lent)))

-- what is printed is what stands in `&room[..count]`
pub printed_first : (text lent after : List ℕ) (count : ℕ) → PrintedAs text count lent after → take count after ≡ text
unfolding lent_after
printed_first text lent after count p = rw (p.bytes, p.room) (take-append_seam text (drop (length text) lent))

-- a text that is written from the first place on, in a room that it fits
pub put_printed : {text lent after : List ℕ} {next : ℕ} → Put lent 0 text after next → length text ≤ length lent → PrintedAs text next lent after
unfolding lent_after
put_printed {text} {lent} put fits =
    record { bytes = put.past ∙ zero-add _; room = put.stored ∙ sets-eq text lent 0 (omega (arith, fits)) ∙ rw zero-add }

module _ (text room : List ℕ) (fits : plan_most ≤ length room) where
  -- 10 is never the answer
  same_answer : answered text (length room) ≡ answer text
  unfolding answered in_room
  same_answer = go (answer text) (answer-length text)
    where
      go : (o : Outcome (List ℕ)) → ((plan : List ℕ) → o ≡ is plan → length plan ≤ plan_most) → onward o (λ plan. in_room plan (length room)) ≡ o
      go (is plan) short = let fit : leb (length plan) (length room) ≡ true = le-leb (length plan) (length room) (omega (arith, short plan refl, fits)) in rw fit
      go (refused n p) short = refl

  pub plan_printed : (bytes : ℕ) {after : List ℕ} → WrittenAs (answered text (length room)) (Ok bytes) room after → PrintedAs (plans text) bytes room after
  unfolding plans printed
  plan_printed bytes {after} a = go (answer text) (rw same_answer at a)
    where
      go : (o : Outcome (List ℕ)) → WrittenAs o (Ok bytes) room after → PrintedAs (printed o) bytes room after
      go (is plan) w = record { bytes = is_iff.0 w.bytes; room = w.room }
      go (refused n p) w = absurd (refused_not_is (sym w.bytes))

  pub refusal_printed : (r : Refusal) {after : List ℕ} → WrittenAs (answered text (length room)) (Err r) room after
      → {exit : List ℕ} {next : ℕ} → Put after 0 (line_text letter_r ((number_place r).0 ∷ (number_place r).1 ∷ [])) exit next
      → PrintedAs (plans text) next room exit
  unfolding plans printed lent_after
  refusal_printed r {after} a {exit} {next} put = go (answer text) (plans-length text) (rw same_answer at a)
    where
      go : (o : Outcome (List ℕ)) → length (printed o) ≤ plan_most → WrittenAs o (Err r) room after → PrintedAs (printed o) next room exit
      go (is plan) short w = absurd (refused_not_is w.bytes)
      go (refused k l) short w =
          let (number, place) = refused_same w.bytes in
          put_printed (rw (number, place, w.room) at put) (omega (arith, short, fits))
