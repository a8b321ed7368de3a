-- From what the reader leaves in its lists to the greedy starts: what it accepts is a job, as the planner's own functions need it.
use mathlib.Core.Path.{◌≡◌, refl, ◌∙◌}
use mathlib.Core.List.{List, ◌++◌}
use Prim.Native.Nat.{ℕ, ◌≤◌}
use native.Mathlib.Omega.{arith}
use lib.ListN.{length, drop}
use Rattle.std.specs.Prelude.{Ok, Err}
use Rattle.rules.specs.Sizes.{packets_most}
use Rattle.rules.specs.Network.{Job}
use Rattle.rules.specs.Outcome.{Outcome, is, refused, onward}
use Rattle.rules.specs.Greedy.{greedy}
use Rattle.rules.specs.Answers.{lent_after}
use Rattle.theorems.specs.Jobs.{IsJob}
use Rattle.theorems.proofs.Verdicts.{refused_not_is}
use Rattle.theorems.proofs.Accepted.{tables-fine-iff}
use Rattle.job.specs.declared.Job.{Job as Counts}
use Rattle.job.specs.declared.Refusal.{Refusal}
use Rattle.job.specs.Told.{refusal_of}
use Rattle.job_text.specs.Told.{Lists, read_in, counts_of, ReadAs}
use Rattle.job_text.specs.SoFar.{so_far}
use Rattle.job_text.proofs.Accepts.{read_first, read_accepted}
use Rattle.planner.specs.PacketsInLists.{SimplePaths, greedy_starts}
use Rattle.planner.specs.Told.{ReadAndPlannedAs}
use Rattle.planner.proofs.Filling.{length-greedy_starts}
use Rattle.planner.proofs.Planning.{job_listed, greedy_of_lists}

module _ (text : List ℕ) {lent after : Lists} where
  pub text_refused : {r : Refusal} → ReadAs (read_in text lent) (Err r) lent after → (starts : List ℕ) → ReadAndPlannedAs (read_in text lent) (Err r) lent after starts starts
  unfolding lent_after
  text_refused {r} read starts = record { read = read; planned = go (read_in text lent) read.answer }
    where
      go : (o : Outcome Job) → refusal_of r ≡ onward o (λ j. is (counts_of j)) → starts ≡ lent_after (onward o (λ j. is (greedy j))) starts
      go (is j) e = absurd (refused_not_is e)
      go (refused n p) e = refl

  -- the lists that are planned hold the job that was read
  module _ {counts : Counts} (read : ReadAs (read_in text lent) (Ok counts) lent after) (j : Job) (same : j ≡ so_far counts after) where
    job_read_lem : IsJob j
    job_read_lem = rw same ((tables-fine-iff (so_far counts after)).0 (read_accepted text read))

    pub text_listed : SimplePaths j.stops j.hops
    text_listed = job_listed j job_read_lem

    pub text_fits : length j.stops ≤ packets_most
    text_fits = omega (arith, job_read_lem.stops_count, job_read_lem.few_packets)

    pub text_planned : {starts filled : List ℕ} → filled ≡ greedy_starts j.stops j.hops ++ drop (length j.stops) starts → ReadAndPlannedAs (read_in text lent) (Ok counts) lent after starts filled
    unfolding lent_after
    text_planned f = record {
      read = read;
      planned = f ∙ rw (read_first text read, ← same, ← greedy_of_lists j job_read_lem, length-greedy_starts j.stops j.hops);
    }
