-- An accepted job's lists are what the planner's own functions need; and what the planner's ways out leave.
use mathlib.Core.Path.{◌≡◌, sym, ap}
use mathlib.Core.List.{List, [], ◌++◌}
use Prim.Native.Nat.{ℕ, ◌≤◌, ◌<◌}
use native.Mathlib.Omega.{arith}
use Rattle.std.specs.Prelude.{Ok, Err}
use lib.ListN.{length, drop}
use borrow.Author.Tests.{le-leb, lt-leb}
use Rattle.rules.specs.Network.{Job, paths}
use Rattle.rules.specs.Travel.{delay_of}
use Rattle.rules.specs.Outcome.{fine}
use Rattle.rules.specs.Tables.{tables}
use Rattle.rules.specs.Greedy.{greedy_after, greedy}
use Rattle.rules.specs.Answers.{lent_after, planned}
use Rattle.theorems.specs.Jobs.{IsJob}
use Rattle.theorems.proofs.Accepted.{tables-fine-iff, job_claims, job_stops_agree}
use Rattle.theorems.proofs.Demands.{packets_simple}
use Rattle.job.specs.declared.Refusal.{Refusal}
use Rattle.job.specs.declared.Refusal.TheVariants.{ShortRoom}
use Rattle.job.specs.Told.{refusal_of}
use Rattle.planner.specs.PacketsInLists.{SimplePaths, greedy_starts}
use Rattle.planner.specs.Told.{PlannedAs}
use Rattle.planner.proofs.Filling.{length-greedy_starts}

pub job_listed : (j : Job) → IsJob j → SimplePaths j.stops j.hops
unfolding paths
job_listed j h = record {
  agree = job_stops_agree j h;
  few = h.few_hops;
  simple = λ p m. let path = packets_simple j h p m in record { below = λ l i. omega (arith, path.below l i, h.few_links); once = path.once };
}

pub greedy_of_lists : (j : Job) → IsJob j → greedy_starts j.stops j.hops ≡ greedy j
unfolding greedy_starts greedy paths delay_of
greedy_of_lists j h = sym (ap (greedy_after []) (job_claims j h))

module _ (j : Job) where
  -- what a verdict that is fine says of the job
  pub fine_job : fine ≡ tables j → IsJob j
  fine_job e = (tables-fine-iff j).0 (sym e)

  pub plan_refused : (r : Refusal) → refusal_of r ≡ tables j → (lent : List ℕ) → PlannedAs (planned j (length lent)) (Err r) lent lent
  unfolding planned lent_after
  plan_refused r e lent = record { verdict = rw (← e); list = rw (← e) }

  pub plan_short : fine ≡ tables j → (lent : List ℕ) → length lent < length j.sources → PlannedAs (planned j (length lent)) (Err ShortRoom) lent lent
  unfolding planned lent_after
  plan_short e lent l = record { verdict = rw (← e, lt-leb _ _ l); list = rw (← e, lt-leb _ _ l) }

  pub plan_filled : fine ≡ tables j → {lent after : List ℕ} → length j.sources ≤ length lent → after ≡ greedy_starts j.stops j.hops ++ drop (length j.stops) lent → PlannedAs (planned j (length lent)) (Ok tt) lent after
  unfolding planned lent_after
  plan_filled e l w = record {
    verdict = rw (← e, le-leb _ _ l);
    list = rw (← e, le-leb _ _ l, ← greedy_of_lists j (fine_job e), length-greedy_starts j.stops j.hops) w;
  }
