-- What the rules' answers on a plan's text come to in plain words, and that the plain words leave no other answer.
use mathlib.Core.Path.{◌≡◌, refl, sym, ◌∙◌}
use mathlib.Core.Bool.{Bool, true, false}
use mathlib.Core.List.{List, []}
use mathlib.Core.Option.{none, some}
use Prim.Native.Nat.{ℕ}
use native.Mathlib.Omega.{arith}
use lib.Dec.{leb}
use lib.ListN.{length}
use borrow.Author.Tests.{le-leb, lt-leb, leb-true, leb-false}
use Rattle.rules.specs.Network.{Job}
use Rattle.rules.specs.Outcome.{Outcome, is, refused, must, ◌then◌, onward}
use Rattle.rules.specs.Check.{Clash}
use Rattle.rules.specs.PlanBack.{read_back}
use Rattle.rules.specs.Answers.{in_room, lent_after, plan_read_in}
use Rattle.rules.specs.CheckedTexts.{TextsChecked, found, job_refused, plan_refused, checked_texts}
use Rattle.theorems.specs.TextPairs.{TextPair}
use Rattle.theorems.proofs.Verdicts.{refused_not_is}
use Rattle.theorems.proofs.Started.{started_fine-iff}
use Rattle.theorems.proofs.PlanBackExact.{read_back_exactly}
use Rattle.theorems.proofs.CheckedTextsMean.{texts_job_refused_iff, texts_plan_refused_iff, texts_found-iff, texts_read_iff, texts_clear_iff, texts_clash_shown}
use Rattle.zhevgulor.specs.declared.Answer.{Answer}
use Rattle.zhevgulor.specs.declared.TextsAnswer.{TextsAnswer}
use Rattle.zhevgulor.specs.Told.{answer_for, LentAs, clash_numbers, about_text, TextsFor}
use Rattle.zhevgulor.specs.Promise.{ShownOf}
use Rattle.zhevgulor.specs.PlanBackPromise.{PlanSays, ReadPlanPromise, told_starts, too_few_places, no_plan, CheckTextsPromise, texts_clear, texts_clash, texts_no_place, texts_no_job, texts_no_plan}
use Rattle.zhevgulor.proofs.Promises.{says_reading, reading_says, shown-found}

-- ---- the starts of a plan's text

module _ (j : Job) (plan : List ℕ) where
  plan_says : (ss : List ℕ) → read_back j plan ≡ is ss → PlanSays j plan ss
  plan_says ss e =
      let (started, text) = (read_back_exactly j plan ss).0 e in
      record { started = (started_fine-iff j ss).0 started; its_text = text }

  says_plan : (ss : List ℕ) → PlanSays j plan ss → read_back j plan ≡ is ss
  says_plan ss s = (read_back_exactly j plan ss).1 ((started_fine-iff j ss).1 s.started, s.its_text)

  no_starts : {n p : ℕ} → read_back j plan ≡ refused n p → (ss : List ℕ) → PlanSays j plan ss → ⊥
  no_starts e ss s = refused_not_is (sym e ∙ says_plan ss s)

module _ (j : Job) (plan lent : List ℕ) where
  pub read_plan_promised : {told : Answer} {after : List ℕ} → LentAs (plan_read_in j plan (length lent)) told lent after
      → ReadPlanPromise j plan lent told after
  unfolding plan_read_in in_room lent_after
  read_plan_promised {told} {after} w = go (read_back j plan) refl w
    where
      fits : (ss : List ℕ) → PlanSays j plan ss → (t : Bool) → leb (length ss) (length lent) ≡ t → LentAs (must t 10 0 then is ss) told lent after
          → ReadPlanPromise j plan lent told after
      fits ss s true l w = told_starts ss s (leb-true _ _ l) w.answered w.list
      fits ss s false l w = too_few_places ss s (leb-false _ _ l) w.answered w.list

      go : (o : Outcome (List ℕ)) → read_back j plan ≡ o → LentAs (onward o (λ ss. in_room ss (length lent))) told lent after
          → ReadPlanPromise j plan lent told after
      go (is ss) e w = fits ss (plan_says j plan ss e) (leb (length ss) (length lent)) refl w
      go (refused n p) e w = no_plan n p (no_starts j plan e) e w.answered w.list

  pub read_plan_kept : {told : Answer} {after : List ℕ} → ReadPlanPromise j plan lent told after
      → LentAs (plan_read_in j plan (length lent)) told lent after
  unfolding plan_read_in in_room lent_after
  read_plan_kept (told_starts ss s l a b) = let e = says_plan j plan ss s in record { answered = rw (e, le-leb _ _ l) a; list = rw (e, le-leb _ _ l) b }
  read_plan_kept (too_few_places ss s l a b) = let e = says_plan j plan ss s in record { answered = rw (e, lt-leb _ _ l) a; list = rw (e, lt-leb _ _ l) b }
  read_plan_kept (no_plan n p never e a b) = record { answered = rw e a; list = rw e b }

-- ---- the clash of two texts

module _ (job plan lent : List ℕ) where
  pub check_texts_promised : {told : TextsAnswer} {after : List ℕ} → TextsFor (checked_texts job plan) told lent after
      → CheckTextsPromise job plan lent told after
  unfolding in_room lent_after
  check_texts_promised {told} {after} w = go (checked_texts job plan) refl w
    where
      shown_or_no_place : (c : Clash) → checked_texts job plan ≡ found (some c) → (t : Bool) → leb 4 (length lent) ≡ t
          → told ≡ about_text 0 (answer_for (onward (must t 10 0 then is (clash_numbers (some c))) (λ numbers. is (length numbers))))
          → after ≡ lent_after (must t 10 0 then is (clash_numbers (some c))) lent → CheckTextsPromise job plan lent told after
      shown_or_no_place c e true l a b =
          let (j, ss, texts, shown) = texts_clash_shown job plan c e in
          texts_clash j ss texts _ _ _ _ shown (leb-true _ _ l) a b
      shown_or_no_place c e false l a b =
          let (j, ss, texts, shown) = texts_clash_shown job plan c e in
          texts_no_place j ss texts _ _ _ _ shown (leb-false _ _ l) a b

      go : (t : TextsChecked) → checked_texts job plan ≡ t → TextsFor t told lent after → CheckTextsPromise job plan lent told after
      go (found none) e w =
          let (j, ss, texts, apart) = (texts_clear_iff job plan).0 e in
          let room = le-leb 0 (length lent) (omega arith) in
          texts_clear j ss texts apart (rw room at w.answered) (rw room at w.list)
      go (found (some c)) e w = shown_or_no_place c e (leb 4 (length lent)) refl w.answered w.list
      go (job_refused n p) e w =
          let r = (texts_job_refused_iff job plan n p).0 e in
          texts_no_job n p (λ j s. refused_not_is (sym r ∙ says_reading job j s)) r w.answered w.list
      go (plan_refused n p) e w =
          let (j, r, b) = (texts_plan_refused_iff job plan n p).0 e in
          texts_no_plan j (reading_says job j r) n p (no_starts j plan b) b w.answered w.list

  -- the clash that is shown of two accepted texts is what they come to
  texts_shown : {j : Job} {ss : List ℕ} {k e link step : ℕ} → TextPair j ss job plan → ShownOf j ss k e link step
      → checked_texts job plan ≡ found (some (record { later = k; earlier = e; resource = link; step = step }))
  texts_shown {j} {ss} texts shown =
      let (r, b) = (texts_read_iff job plan j ss).1 texts in
      (texts_found-iff job plan _).1 (j, ss, r, b, shown-found j ss [] texts.started shown)

  pub check_texts_kept : {told : TextsAnswer} {after : List ℕ} → CheckTextsPromise job plan lent told after
      → TextsFor (checked_texts job plan) told lent after
  unfolding in_room lent_after
  check_texts_kept (texts_clear j ss texts apart a b) =
      let e = (texts_clear_iff job plan).1 (j, ss, texts, apart) in
      let room = le-leb 0 (length lent) (omega arith) in
      record { answered = rw (e, room) a; list = rw (e, room) b }
  check_texts_kept (texts_clash j ss texts k e link step shown l a b) =
      let c = texts_shown texts shown in record { answered = rw (c, le-leb _ _ l) a; list = rw (c, le-leb _ _ l) b }
  check_texts_kept (texts_no_place j ss texts k e link step shown l a b) =
      let c = texts_shown texts shown in record { answered = rw (c, lt-leb _ _ l) a; list = rw (c, lt-leb _ _ l) b }
  check_texts_kept (texts_no_job n p never e a b) =
      let c = (texts_job_refused_iff job plan n p).1 e in record { answered = rw c a; list = rw c b }
  check_texts_kept (texts_no_plan j s n p never e a b) =
      let c = (texts_plan_refused_iff job plan n p).1 (j, says_reading job j s, e) in record { answered = rw c a; list = rw c b }
