-- The ways out of the plan reader: the job's own refusals, the text's length, what its lines say, and the lent list's room.
use mathlib.Core.Path.{◌≡◌, sym, ◌∙◌}
use mathlib.Core.List.{List, ◌++◌}
use Prim.Native.Nat.{ℕ, ◌≤◌, ◌<◌}
use native.Mathlib.Omega.{arith}
use lib.ListN.{length, take, drop, length-take}
use borrow.Author.Tests.{le-leb, lt-leb}
use Rattle.std.proofs.Common.{Result, Ok, Err}
use Rattle.rules.specs.Sizes.{text_most}
use Rattle.rules.specs.Network.{Job}
use Rattle.rules.specs.Outcome.{is}
use Rattle.rules.specs.Tables.{tables}
use Rattle.rules.specs.PlanBack.{read_back}
use Rattle.rules.specs.Answers.{in_room, lent_after, plan_read_in}
use Rattle.theorems.proofs.Started.{started_fine-iff}
use Rattle.theorems.proofs.PlanBackExact.{read_back_started}
use Rattle.job.specs.declared.Refusal.{Refusal}
use Rattle.job.specs.declared.Refusal.TheVariants.{TextTooLong, ShortRoom}
use Rattle.job.specs.Told.{refusal_of}
use Rattle.plan_text.specs.PlanLines.{lines_say}
use Rattle.plan_text.specs.Told.{ReadBackAs}

module _ (j : Job) (plan lent : List ℕ) where
  abbrev Back : Result Unit Refusal → List ℕ → Type 0
  Back told after = ReadBackAs (plan_read_in j plan (length lent)) told lent after

  back_refused : (r : Refusal) → refusal_of r ≡ read_back j plan → Back (Err r) lent
  unfolding plan_read_in lent_after
  back_refused r e = record { verdict = rw (← e); starts = rw (← e) }

  pub back_no_job : (r : Refusal) → refusal_of r ≡ tables j → Back (Err r) lent
  unfolding read_back
  back_no_job r e = back_refused r (rw (← e))

  module _ {u : Unit} (accepted : is u ≡ tables j) where
    pub back_too_long : text_most < length plan → Back (Err TextTooLong) lent
    unfolding read_back
    back_too_long l = back_refused TextTooLong (rw (← accepted, lt-leb _ _ l))

    module _ (short : length plan ≤ text_most) where
      back_lines : read_back j plan ≡ lines_say j plan
      unfolding read_back
      back_lines = rw (← accepted, le-leb _ _ short)

      pub back_lines_refused : (r : Refusal) → refusal_of r ≡ lines_say j plan → Back (Err r) lent
      back_lines_refused r e = back_refused r (e ∙ sym back_lines)

      -- the starts that the lines say, as many as packets
      module _ (found : List ℕ) (said : is (take (length j.sources) found) ≡ lines_say j plan) where
        said_so : read_back j plan ≡ is (take (length j.sources) found)
        said_so = back_lines ∙ sym said

        count : length (take (length j.sources) found) ≡ length j.sources
        count = ((started_fine-iff j (take (length j.sources) found)).0 (read_back_started j plan (take (length j.sources) found) said_so)).count

        pub found_room : length j.sources ≤ length found
        found_room = omega (arith, length-take (length j.sources) found, count)

        pub back_no_room : length lent < length j.sources → Back (Err ShortRoom) lent
        unfolding plan_read_in in_room lent_after
        back_no_room l =
            let z = lt-leb (length (take (length j.sources) found)) (length lent) (omega (arith, l, count)) in
            record { verdict = rw (said_so, z); starts = rw (said_so, z) }

        pub back_starts : length j.sources ≤ length lent → {front : List ℕ} → front ≡ take (length j.sources) found
            → Back (Ok tt) (front ++ drop (length j.sources) lent)
        unfolding plan_read_in in_room lent_after
        back_starts l copied =
            let z = le-leb (length (take (length j.sources) found)) (length lent) (omega (arith, l, count)) in
            record { verdict = rw (said_so, z); starts = rw (said_so, z, copied, count) }

        -- however it is said how many are copied
        pub back_copied : length j.sources ≤ length lent → {n : ℕ} → n ≡ length j.sources → {front : List ℕ} → front ≡ take n found
            → Back (Ok tt) (front ++ drop n lent)
        back_copied l e copied = rw e (back_starts l (rw e at copied))
