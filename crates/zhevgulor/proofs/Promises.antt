-- What the rules' answers come to in plain words: an answer that meets `LentAs` keeps the promise.
use mathlib.Core.Path.{◌≡◌, refl, sym, ap, ◌∙◌}
use mathlib.Core.Bool.{Bool, true, false}
use mathlib.Core.List.{List, ◌++◌}
use mathlib.Core.Option.{Option, none, some}
use Prim.Native.Nat.{ℕ}
use native.Mathlib.Omega.{arith}
use lib.Dec.{leb}
use lib.ListN.{length, take}
use borrow.Author.Tests.{le-leb, lt-leb, leb-true, leb-false}
use Rattle.rules.specs.Network.{Job, packets}
use Rattle.rules.specs.Outcome.{Outcome, is, refused, Verdict, must, ◌then◌, onward}
use Rattle.rules.specs.Check.{Clash as Found}
use Rattle.rules.specs.Greedy.{greedy}
use Rattle.rules.specs.JobText.{reading}
use Rattle.rules.specs.PlanText.{text_of_plan}
use Rattle.rules.specs.Answers.{in_room, lent_after, started_verdict, checked, answer, answered}
use Rattle.theorems.specs.Jobs.{IsStarted}
use Rattle.theorems.proofs.Verdicts.{refused_not_is, refused_for, then_is_iff, onward_of}
use Rattle.theorems.proofs.Starts.{length-greedy, greedy-Starts, only_greedy_starts, greedy-front-packets}
use Rattle.theorems.proofs.Demands.{job_bounded}
use Rattle.theorems.proofs.Started.{started_fine-iff}
use Rattle.theorems.proofs.Conflicts.{claims_mean}
use Rattle.theorems.proofs.Checks.{shown_unique}
use Rattle.theorems.proofs.Checked.{checked_clear_iff, checked_shows}
use Rattle.theorems.proofs.TextExact.{reading-iff}
use Rattle.theorems.proofs.TextFronts.{starts_of-front}
use Rattle.zhevgulor.specs.declared.Answer.{Answer}
use Rattle.zhevgulor.specs.Told.{answer_for, LentAs, clash_numbers, checked_in}
use Rattle.zhevgulor.specs.Promise.{Says, StartsIn, Unmoved, UnmovedText, PlanOf, PlanPromise, told_plan, no_room, no_job, ShownOf, CheckPromise, clear, clash, no_place, not_started}

-- ---- from a job's text to its plan's text

pub says_reading : (text : List ℕ) (j : Job) → Says text j → reading text ≡ is j
says_reading text j s = (reading-iff text j).1 (s.job, s.its_text, s.short)

pub reading_says : (text : List ℕ) (j : Job) → reading text ≡ is j → Says text j
reading_says text j e = let (job, same, short) = (reading-iff text j).0 e in record { job = job; its_text = same; short = short }

-- the packets of the first lines have, in a text that goes on, the starts that they have alone
front_starts : (front more : List ℕ) (i j : Job) (ss : List ℕ) → Says front i → StartsIn (front ++ more) j ss → take (length (packets i)) ss ≡ greedy i
front_starts front more i j ss s (t, first) =
    rw (only_greedy_starts j ss first, ← length-greedy i) (starts_of-front front more i j (says_reading front i s) (says_reading (front ++ more) j t))

text_unmoved : (text : List ℕ) (j : Job) (ss : List ℕ) → StartsIn text j ss → UnmovedText text ss
text_unmoved text j ss s front more other i k ts e f t =
    front_starts front other i k ts f t ∙ sym (front_starts front more i j ss f (rw (← e) s))

greedy_unmoved : (j : Job) → Unmoved j (greedy j)
greedy_unmoved j n k others job network same first = rw (only_greedy_starts k others first) (greedy-front-packets k j n network same)

plan_of : (text : List ℕ) (j : Job) → reading text ≡ is j → PlanOf text (text_of_plan j (greedy j))
plan_of text j e =
    let says = reading_says text j e in
    let starts : StartsIn text j (greedy j) = (says, greedy-Starts j) in
    record {
      job = j;
      starts = greedy j;
      in_text = starts;
      bounded = job_bounded j says.job;
      unmoved = greedy_unmoved j;
      unmoved_text = text_unmoved text j (greedy j) starts;
      written = refl;
    }

pub plan_promised : (text lent : List ℕ) {told : Answer} {after : List ℕ} → LentAs (answered text (length lent)) told lent after → PlanPromise text lent told after
unfolding answered answer in_room lent_after
plan_promised text lent {told} {after} w = go (reading text) refl w.answered w.list
  where
    fits : (j : Job) → reading text ≡ is j → (t : Bool) → leb (length (text_of_plan j (greedy j))) (length lent) ≡ t
        → told ≡ answer_for (onward (must t 10 0 then is (text_of_plan j (greedy j))) (λ a. is (length a)))
        → after ≡ lent_after (must t 10 0 then is (text_of_plan j (greedy j))) lent → PlanPromise text lent told after
    fits j e true l a b = told_plan _ (plan_of text j e) (leb-true _ _ l) a b
    fits j e false l a b = no_room _ (plan_of text j e) (leb-false _ _ l) a b

    go : (o : Outcome Job) → reading text ≡ o
        → told ≡ answer_for (onward (onward (onward o (λ j. is (text_of_plan j (greedy j)))) (λ plan. in_room plan (length lent))) (λ a. is (length a)))
        → after ≡ lent_after (onward (onward o (λ j. is (text_of_plan j (greedy j)))) (λ plan. in_room plan (length lent))) lent → PlanPromise text lent told after
    go (is j) e a b = fits j e (leb (length (text_of_plan j (greedy j))) (length lent)) refl a b
    go (refused n p) e a b = no_job n p (λ j s. refused_not_is (sym e ∙ says_reading text j s)) e a b

-- and an answer that keeps the promise is that of the rules, so that the promise alone leaves one answer
plan_is : (text plan : List ℕ) → PlanOf text plan → answer text ≡ is plan
unfolding answer
plan_is text plan p =
    let (says, first) = p.in_text in
    onward_of (says_reading text p.job says) _ ∙ ap is (ap (text_of_plan p.job) (sym (only_greedy_starts p.job p.starts first)) ∙ sym p.written)

pub promise_kept : (text lent : List ℕ) {told : Answer} {after : List ℕ} → PlanPromise text lent told after → LentAs (answered text (length lent)) told lent after
unfolding answered answer in_room lent_after
promise_kept text lent (told_plan plan p l a b) = let e = plan_is text plan p in record { answered = rw (e, le-leb _ _ l) a; list = rw (e, le-leb _ _ l) b }
promise_kept text lent (no_room plan p l a b) = let e = plan_is text plan p in record { answered = rw (e, lt-leb _ _ l) a; list = rw (e, lt-leb _ _ l) b }
promise_kept text lent (no_job n p never e a b) = record { answered = rw e a; list = rw e b }

-- ---- the check of starts

-- what always has a value, after a check, is refused by the check
then_refuses : {A : Type 0} (v : Verdict) (a : A) {n p : ℕ} → (v then is a) ≡ refused n p → v ≡ refused n p
then_refuses (is u) a e = absurd (refused_not_is (sym e))
then_refuses (refused n p) a e = refused_for e

module _ (j : Job) (starts lent : List ℕ) where
  found_started : {found : Option Found} → checked j starts ≡ is found → IsStarted j starts
  unfolding checked
  found_started {found} e = (started_fine-iff j starts).0 ((then_is_iff (started_verdict j starts) _ found).0 e).0

  refused_first : {n p : ℕ} → checked j starts ≡ refused n p → started_verdict j starts ≡ refused n p
  unfolding checked
  refused_first e = then_refuses (started_verdict j starts) _ e

  refused_whole : {n p : ℕ} → started_verdict j starts ≡ refused n p → checked j starts ≡ refused n p
  unfolding checked
  refused_whole e = rw e

  -- the clash, where the list has place for it or not
  shown_or_no_place : {told : Answer} {after : List ℕ} (c : Found) → checked j starts ≡ is (some c) → (t : Bool) → leb 4 (length lent) ≡ t
      → LentAs (must t 10 0 then is (clash_numbers (some c))) told lent after → CheckPromise j starts lent told after
  unfolding lent_after
  shown_or_no_place c e true l w = clash (found_started e) _ _ _ _ (checked_shows j starts c e) (leb-true _ _ l) w.answered w.list
  shown_or_no_place c e false l w = no_place (found_started e) _ _ _ _ (checked_shows j starts c e) (leb-false _ _ l) w.answered w.list

  promised : {told : Answer} {after : List ℕ} (o : Outcome (Option Found)) → checked j starts ≡ o
      → LentAs (onward o (λ found. in_room (clash_numbers found) (length lent))) told lent after → CheckPromise j starts lent told after
  unfolding in_room lent_after
  promised (is none) e w =
      let room = le-leb 0 (length lent) (omega arith) in
      clear (found_started e) ((checked_clear_iff j starts).0 e).1 (rw room at w.answered) (rw room at w.list)
  promised (is (some c)) e w = shown_or_no_place c e (leb 4 (length lent)) refl w
  promised (refused n p) e w =
      not_started n p (λ s. refused_not_is (sym (refused_first e) ∙ (started_fine-iff j starts).1 s)) (refused_first e) w.answered w.list

  pub check_promised : {told : Answer} {after : List ℕ} → LentAs (checked_in j starts (length lent)) told lent after → CheckPromise j starts lent told after
  unfolding checked_in
  check_promised w = promised (checked j starts) refl w

  -- what is shown is what is found
  pub shown-found : {k e link step : ℕ} → IsStarted j starts → ShownOf j starts k e link step
      → checked j starts ≡ is (some (record { later = k; earlier = e; resource = link; step = step }))
  shown-found {k} {e} {link} {step} s shown = go (checked j starts) refl
    where
      go : (o : Outcome (Option Found)) → checked j starts ≡ o → o ≡ is (some (record { later = k; earlier = e; resource = link; step = step }))
      go (is none) c = absurd (((checked_clear_iff j starts).0 c).1 _ _ _ _ _ shown.true_conflict)
      go (is (some found)) c =
          let (k_same, e_same, link_same, step_same) = shown_unique (claims_mean j.network) (checked_shows j starts found c) shown in
          rw (← k_same, ← e_same, ← link_same, ← step_same)
      go (refused n p) c = absurd (refused_not_is (sym (refused_first c) ∙ (started_fine-iff j starts).1 s))

  pub check_promise_kept : {told : Answer} {after : List ℕ} → CheckPromise j starts lent told after → LentAs (checked_in j starts (length lent)) told lent after
  unfolding checked_in in_room lent_after
  check_promise_kept (clear s apart a b) =
      let e = (checked_clear_iff j starts).1 ((started_fine-iff j starts).1 s, apart) in
      let room = le-leb 0 (length lent) (omega arith) in
      record { answered = rw (e, room) a; list = rw (e, room) b }
  check_promise_kept (clash s k e link step shown l a b) = let c = shown-found s shown in record { answered = rw (c, le-leb _ _ l) a; list = rw (c, le-leb _ _ l) b }
  check_promise_kept (no_place s k e link step shown l a b) = let c = shown-found s shown in record { answered = rw (c, lt-leb _ _ l) a; list = rw (c, lt-leb _ _ l) b }
  check_promise_kept (not_started n p never e a b) = let c = refused_whole e in record { answered = rw c a; list = rw c b }
