-- From what is read and planned to the answer from bytes.
use mathlib.Core.Path.{◌≡◌, refl, sym, ap, ◌∙◌}
use mathlib.Core.Bool.{true}
use mathlib.Core.List.{List, ◌++◌}
use Prim.Native.Nat.{ℕ, ◌≤◌}
use native.Mathlib.Omega.{arith}
use lib.ListN.{length, take, drop, length-append}
use lib.Seq.{take-append_seam, length-take-le}
use Rattle.std.proofs.Common.{Result, Ok, Err}
use Rattle.rules.specs.Network.{Job}
use Rattle.rules.specs.Outcome.{Outcome, is, refused, fine, onward}
use Rattle.rules.specs.Tables.{tables}
use Rattle.rules.specs.Greedy.{greedy}
use Rattle.rules.specs.JobText.{reading}
use Rattle.rules.specs.PlanText.{text_of_plan}
use Rattle.rules.specs.Answers.{started_verdict, in_room, lent_after, written, answer, answered}
use Rattle.theorems.proofs.Verdicts.{refused_for}
use Rattle.theorems.proofs.Demands.{starts_count}
use Rattle.theorems.proofs.Started.{greedy_started}
use Rattle.job.specs.declared.Job.{Job as Counts}
use Rattle.job.specs.declared.Refusal.{Refusal}
use Rattle.job.specs.Told.{refusal_of}
use Rattle.job_text.specs.Told.{Lists, roomy, read_in, counts_of}
use Rattle.job_text.specs.SoFar.{so_far}
use Rattle.job_text.proofs.Accepts.{read_first, read_counts, read_stands, read_accepted, read_in_lem}
use Rattle.planner.specs.Told.{ReadAndPlannedAs}
use Rattle.plan_text.specs.Told.{WrittenAs}
use Rattle.plan_text.proofs.Stops.{accepted_job}

first_of : (xs ys : List ℕ) {n : ℕ} → length xs ≡ n → take n (xs ++ ys) ≡ xs
first_of xs ys e = rw (← e) (take-append_seam xs ys)

module _ (text : List ℕ) {lent after : Lists} {starts found : List ℕ} where
  pub answer_refused : {r : Refusal} → ReadAndPlannedAs (read_in text lent) (Err r) lent after starts found → roomy lent ≡ true → (room : List ℕ)
      → WrittenAs (answered text (length room)) (Err r) room room
  unfolding answered answer lent_after
  answer_refused {r} a h room = go (reading text) (rw (read_in_lem text lent h) at a.read.answer)
    where
      go : (o : Outcome Job) → refusal_of r ≡ onward o (λ j. is (counts_of j)) → WrittenAs (onward (onward o (λ j. is (text_of_plan j (greedy j)))) (λ plan. in_room plan (length room))) (Err r) room room
      go (is j) e = absurd cc
      go (refused n p) e = record { bytes = refused_for e; room = refl }

  module _ {counts : Counts} (a : ReadAndPlannedAs (read_in text lent) (Ok counts) lent after starts found) where
    abbrev job_read : Job
    job_read = so_far counts after

    accepted : tables job_read ≡ fine
    accepted = read_accepted text a.read

    count : length (greedy job_read) ≡ counts.packets
    count = starts_count job_read (accepted_job job_read accepted) ∙ ap (λ c. c.packets) (read_counts text a.read)

    found-greedy : found ≡ greedy job_read ++ drop (length (greedy job_read)) starts
    unfolding lent_after
    found-greedy = rw (read_first text a.read) at a.planned

    -- the starts that are found are the first of their list
    pub starts_hold : counts.packets ≤ length found
    starts_hold = rw found-greedy (omega (arith, count, length-append (greedy job_read) (drop (length (greedy job_read)) starts)))

    starts_first : take counts.packets found ≡ greedy job_read
    starts_first = rw found-greedy (first_of (greedy job_read) (drop (length (greedy job_read)) starts) count)

    pub job_accepted : (j : Job) → j ≡ job_read → tables j ≡ fine
    job_accepted j e = ap tables e ∙ accepted

    -- as many starts as packets, and the starts of the plan
    module _ (j : Job) (is_read : j ≡ job_read) {packets : ℕ} (p : packets ≡ counts.packets) where
      pub starts_counted : length (take packets found) ≡ length j.stops
      starts_counted =
          rw (p, is_read) (length-take-le counts.packets found starts_hold ∙ sym (ap (λ c. c.packets) (read_counts text a.read)) ∙ sym (accepted_job job_read accepted).stops_count)

      pub read_started : started_verdict j (take packets found) ≡ fine
      read_started = rw (p, is_read, starts_first) (greedy_started job_read accepted)

      pub answer-written : {w : Result ℕ Refusal} {room after_room : List ℕ} → WrittenAs (written j (take packets found) (length room)) w room after_room
          → WrittenAs (answered text (length room)) w room after_room
      unfolding answered answer written
      answer-written w = rw (read_stands text a.read) (rw (p, is_read, starts_first, greedy_started job_read accepted) at w)
