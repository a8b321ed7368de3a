-- Jobs with starts made elsewhere: what is accepted, how long its plan's text is, what a lead is and how far it goes.
use mathlib.Core.Path.{◌≡◌, refl, sym, ◌∙◌}
use mathlib.Core.List.Memᴰ
use mathlib.Core.List.Memᴰ.{head as here}
use mathlib.Core.List.Memᴰ.{tail as there}
use mathlib.Core.List.{List, [], ◌∷◌, Memᴰ}
use mathlib.Core.Logic.Iff
use mathlib.Core.Logic.{◌↔◌, ◌≢◌, ◌⊎◌, ⊎_map}
use mathlib.Core.Option.{Option, none, some}
use Prim.Native.Nat.{ℕ, suc, ◌≤◌}
use native.Mathlib.Omega.{arith}
use lib.IntN.{ℤ, pos, nat_abs, ◌-ℤ◌}
use lib.ListN.{length}
use borrow.Author.Tests.{ne_eqb}
use Rattle.counting.proofs.Places.{none_not_some, mem_at}
use Rattle.rules.specs.Sizes.{start_most, plan_most, lead_most}
use Rattle.rules.specs.Network.{Job, paths}
use Rattle.rules.specs.Travel.{delay_in}
use Rattle.rules.specs.Outcome.{is, refused, fine}
use Rattle.rules.specs.Tables.{tables}
use Rattle.rules.specs.Greedy.{greedy}
use Rattle.rules.specs.Lead.{entry_at, lead}
use Rattle.rules.specs.Plain.{EntersAt}
use Rattle.rules.specs.PlanText.{text_of_plan}
use Rattle.rules.specs.Answers.{starts_verdict, started_verdict, led, answer}
use Rattle.rules.specs.JobText.{reading}
use Rattle.theorems.specs.Jobs.{IsJob, IsStarted}
use Rattle.theorems.proofs.Verdicts.{leb_iff, eqb_iff, is_iff, must-iff, then_iff, then_is_iff, onward_is}
use Rattle.theorems.proofs.TextJobs.{reading_accepted}
use Rattle.theorems.proofs.Paths.{path_distinct}
use Rattle.theorems.proofs.Accepted.{tables-fine-iff, length-paths, job_path, job_delayed}
use Rattle.theorems.proofs.Travels.{PathsFit}
use Rattle.theorems.proofs.PlanLength.{plan_length-le}
use Rattle.theorems.proofs.Leads.{entry_at_enters, enters_at_entry, lead_in_range, no_lead-iff, sub-zero-iff}
use Rattle.theorems.proofs.Demands.{starts_count, job_bounded}

starts_fine-iff : (k : ℕ) (ss : List ℕ) → (starts_verdict k ss ≡ fine) ↔ ((s : ℕ) → Memᴰ s ss → s ≤ start_most)
unfolding starts_verdict
starts_fine-iff k [] = (λ e s m. absurd (Memᴰ.not-nil m), λ h. refl)
starts_fine-iff k (s ∷ ss) = Iff.trans (then_iff (must-iff _ _ (leb_iff s start_most)) (starts_fine-iff (suc k) ss)) (both, λ h. (h s (here refl), λ t m. h t (there m)))
  where
    both : (s ≤ start_most) × ((t : ℕ) → Memᴰ t ss → t ≤ start_most) → (t : ℕ) → Memᴰ t (s ∷ ss) → t ≤ start_most
    both h t (here e) = rw e h.0
    both h t (there m) = h.1 t m

pub started_fine-iff : (j : Job) (starts : List ℕ) → (started_verdict j starts ≡ fine) ↔ IsStarted j starts
unfolding started_verdict
started_fine-iff j starts =
    Iff.trans (then_iff (tables-fine-iff j) (then_iff (must-iff _ _ (eqb_iff _ _)) (starts_fine-iff 0 starts)))
    (λ t. record { job = t.0; count = t.1.0; in_time = t.1.1 }, λ h. (h.job, (h.count, h.in_time)))

-- every path of an accepted job is short enough
pub paths_short : (j : Job) → IsJob j → PathsFit (delay_in j) (paths j)
paths_short j job p m = ((job_path j job m).1.short, job_delayed j job m)

pub started_plan_length : (j : Job) (starts : List ℕ) → started_verdict j starts ≡ fine → length (text_of_plan j starts) ≤ plan_most
started_plan_length j starts e =
    let h = (started_fine-iff j starts).0 e in
    let job = h.job in
    plan_length-le j starts (omega (arith, h.count, job.few_packets)) h.in_time (paths_short j job) (omega (arith, length-paths j, job.stops_count, job.few_packets))

-- the greedy starts are in time, so they are starts that the check, the lead and the writer take
pub greedy_started : (j : Job) → tables j ≡ fine → started_verdict j (greedy j) ≡ fine
greedy_started j e =
    let job = (tables-fine-iff j).0 e in
    (started_fine-iff j (greedy j)).1 (record {
      job = job;
      count = starts_count j job;
      in_time = λ s m. let (k, at) = mem_at m in omega (arith, (job_bounded j job).start_le_most k s at);
    })

-- so every answer from bytes fits the room that always suffices
pub answer-length : (text plan : List ℕ) → answer text ≡ is plan → length plan ≤ plan_most
unfolding answer
answer-length text plan e =
    let (j, read, told) = onward_is (reading text) (λ j. is (text_of_plan j (greedy j))) e in
    rw (← is_iff.0 told) (started_plan_length j (greedy j) (greedy_started j (reading_accepted text j read)))

pub led_in_range : (j : Job) (starts : List ℕ) (a b link : ℕ) (z : ℤ) → led j starts a b link ≡ is z → nat_abs z ≤ lead_most
unfolding led
led_in_range j starts a b link z e =
    let (v, l) = (then_is_iff (started_verdict j starts) _ z).0 e in
    let h = (started_fine-iff j starts).0 v in
    lead_in_range (delay_in j) starts (paths j) h.in_time (paths_short j h.job) a b link z l

-- with accepted starts, the lead is the difference of the steps in which the two packets enter the link
module _ (j : Job) (starts : List ℕ) (accepted : started_verdict j starts ≡ fine) (a b link : ℕ) where
  entry_of : (k : ℕ) {x : ℕ} → EntersAt (delay_in j) (paths j) starts k link x → entry_at (delay_in j) starts (paths j) link k ≡ some x
  entry_of k = enters_at_entry (delay_in j) starts (paths j) link k (λ p m. path_distinct (job_path j ((started_fine-iff j starts).0 accepted).job m).1.on_path)

  no_entry-iff : (k : ℕ) → (entry_at (delay_in j) starts (paths j) link k ≡ none) ↔ ((x : ℕ) → EntersAt (delay_in j) (paths j) starts k link x → ⊥)
  no_entry-iff k = (λ e x h. none_not_some (sym e ∙ entry_of k h), go (entry_at (delay_in j) starts (paths j) link k) refl)
    where
      go : (o : Option ℕ) → entry_at (delay_in j) starts (paths j) link k ≡ o → ((x : ℕ) → EntersAt (delay_in j) (paths j) starts k link x → ⊥) → o ≡ none
      go none e h = refl
      go (some x) e h = absurd (h x (entry_at_enters (delay_in j) starts (paths j) link k e))

  pub led_is : {x y : ℕ} → a ≢ b → EntersAt (delay_in j) (paths j) starts a link x → EntersAt (delay_in j) (paths j) starts b link y → led j starts a b link ≡ is (pos x -ℤ pos y)
  unfolding led lead
  led_is apart p q = rw (accepted, ne_eqb a b apart, entry_of a p, entry_of b q)

  -- so it is zero exactly if both enter in one step
  pub led-zero-iff : {x y : ℕ} → a ≢ b → EntersAt (delay_in j) (paths j) starts a link x → EntersAt (delay_in j) (paths j) starts b link y → (led j starts a b link ≡ is (pos 0)) ↔ (x ≡ y)
  led-zero-iff {x} {y} apart p q = rw (led_is apart p q) (Iff.trans is_iff (sub-zero-iff x y))

  -- and there is none exactly if the two packets are one, or one of the two does not enter the link
  pub led_no_lead-iff : (led j starts a b link ≡ refused 13 0) ↔ ((a ≡ b) ⊎ (((x : ℕ) → EntersAt (delay_in j) (paths j) starts a link x → ⊥) ⊎ ((y : ℕ) → EntersAt (delay_in j) (paths j) starts b link y → ⊥)))
  unfolding led
  led_no_lead-iff = rw accepted (Iff.trans (no_lead-iff (delay_in j) starts (paths j) a b link) (
    ⊎_map (λ e. e) (⊎_map (no_entry-iff a).0 (no_entry-iff b).0),
    ⊎_map (λ e. e) (⊎_map (no_entry-iff a).1 (no_entry-iff b).1),
  ))
