-- From what the proved functions answer to what a C program is told.
use mathlib.Core.Path.{◌≡◌, refl, sym, ap, ◌∙◌}
use mathlib.Core.List.{List, [], ◌∷◌, ◌++◌}
use Prim.Native.Nat.{ℕ, ◌≤◌, ◌<◌}
use native.Mathlib.Omega.{arith}
use lib.ListN.{length, drop}
use borrow.Author.Tests.{le-leb, lt-leb}
use Rattle.std.specs.Prelude.{Option, Result, Ok, Err}
use Rattle.rules.specs.Network.{Job}
use Rattle.rules.specs.Outcome.{Outcome, is, refused, fine, onward}
use Rattle.rules.specs.Answers.{in_room, lent_after, planned, checked, plan_read_in}
use Rattle.rules.specs.CheckedTexts.{TextsChecked}
use Rattle.rules.specs.Sizes.{packets_most}
use Rattle.theorems.proofs.Verdicts.{refused_not_is, refused_for}
use Rattle.theorems.proofs.Accepted.{tables-fine-iff}
use Rattle.theorems.proofs.Demands.{starts_count}
use Rattle.job.specs.declared.Refusal.{Refusal}
use Rattle.job.specs.declared.Refusal.TheVariants.{ShortRoom}
use Rattle.job.specs.Told.{refusal_of, verdict_of}
use Rattle.planner.specs.declared.Clash.{Clash}
use Rattle.planner.specs.Told.{PlannedAs, found_of}
use Rattle.planner.proofs.Obeys.{planned-greedy}
use Rattle.plan_text.specs.Told.{written_of, WrittenAs, ReadBackAs}
use Rattle.plan_text.proofs.Obeys.{read_starts}
use Rattle.zhevgulor.specs.declared.Answer.{Answer}
use Rattle.zhevgulor.specs.declared.TextsAnswer.{TextsAnswer}
use Rattle.zhevgulor.specs.Told.{answer_for, LentAs, clash_numbers, checked_in, about_text, refused_text, clash_in, TextsFor}

-- ---- what is told in two numbers

pub text_told : (o : Outcome (List ℕ)) {w : Result ℕ Refusal} {told : Answer} {lent after : List ℕ} → WrittenAs o w lent after → told ≡ answer_for (written_of w) → LentAs o told lent after
text_told o w t = record { answered = t ∙ ap answer_for w.bytes; list = w.room }

-- what is refused, of starts that stand in a lent list
refused_told : (o : Outcome (List ℕ)) (r : Refusal) → refusal_of r ≡ onward o (λ a. fine) → refusal_of r ≡ onward o (λ a. is (length a))
refused_told (is a) r e = absurd (refused_not_is e)
refused_told (refused n p) r e = refused_for e

-- a refusal told by a verdict, and the lent list as the answer leaves it
module _ (answer : Outcome (List ℕ)) (v : Result Unit Refusal) (lent after : List ℕ) (same : verdict_of v ≡ onward answer (λ a. fine)) (list : after ≡ lent_after answer lent) where
  lent_refused : (r : Refusal) (told : Answer) → v ≡ Err r → told ≡ answer_for (refusal_of r) → LentAs answer told lent after
  lent_refused r told e t = record { answered = t ∙ ap answer_for (refused_told answer r (rw e at same)); list = list }

-- ---- starts, as many as there are packets, which are few

module _ (j : Job) (room : ℕ) {lent after : List ℕ} where
  pub planned_few : PlannedAs (planned j room) (Ok tt) lent after → length j.sources ≤ packets_most
  planned_few p = ((tables-fine-iff j).0 (planned-greedy j room lent after p).0).few_packets

  pub planned_told : PlannedAs (planned j room) (Ok tt) lent after → WrittenAs (planned j room) (Ok (length j.sources)) lent after
  planned_told p =
      let (fine, same) = planned-greedy j room lent after p in
      record { bytes = rw same (ap is (sym (starts_count j ((tables-fine-iff j).0 fine)))); room = p.list }

  pub planned_refused : (r : Refusal) → PlannedAs (planned j room) (Err r) lent after → WrittenAs (planned j room) (Err r) lent after
  planned_refused r p = record { bytes = refused_told (planned j room) r p.verdict; room = p.list }

-- ---- starts that a plan's text says

module _ (j : Job) (plan : List ℕ) (room : ℕ) {lent after : List ℕ} where
  pub read_few : ReadBackAs (plan_read_in j plan room) (Ok tt) lent after → length j.sources ≤ packets_most
  read_few p = (read_starts j plan room p refl).started.job.few_packets

  pub read_told : ReadBackAs (plan_read_in j plan room) (Ok tt) lent after → WrittenAs (plan_read_in j plan room) (Ok (length j.sources)) lent after
  read_told p = let r = read_starts j plan room p refl in record { bytes = rw r.said (ap is (sym r.started.count)); room = p.starts }

  pub read_refused : (r : Refusal) → ReadBackAs (plan_read_in j plan room) (Err r) lent after → WrittenAs (plan_read_in j plan room) (Err r) lent after
  read_refused r p = record { bytes = refused_told (plan_read_in j plan room) r p.verdict; room = p.starts }

-- ---- what a check found

module _ (lent : List ℕ) where
  pub nothing_shown : WrittenAs (in_room [] (length lent)) (Ok 0) lent lent
  unfolding in_room lent_after
  nothing_shown = rw (le-leb 0 (length lent) (omega arith)) (record { bytes = refl; room = refl })

  module _ (a b c d : ℕ) where
    pub four_short : length lent < 4 → WrittenAs (in_room (a ∷ b ∷ c ∷ d ∷ []) (length lent)) (Err ShortRoom) lent lent
    unfolding in_room lent_after
    four_short l = rw (lt-leb 4 (length lent) l) (record { bytes = refl; room = refl })

    pub four_written : 4 ≤ length lent → WrittenAs (in_room (a ∷ b ∷ c ∷ d ∷ []) (length lent)) (Ok 4) lent ((a ∷ b ∷ c ∷ d ∷ []) ++ drop 4 lent)
    unfolding in_room lent_after
    four_written l = rw (le-leb 4 (length lent) l) (record { bytes = refl; room = refl })

module _ (j : Job) (starts lent : List ℕ) where
  pub check_refused : (r : Refusal) → refusal_of r ≡ checked j starts → WrittenAs (checked_in j starts (length lent)) (Err r) lent lent
  unfolding checked_in lent_after
  check_refused r same = rw (← same) (record { bytes = refl; room = refl })

  pub check_found : (found : Option Clash) → is (found_of found) ≡ checked j starts → {told : Result ℕ Refusal} {after : List ℕ}
      → WrittenAs (in_room (clash_numbers (found_of found)) (length lent)) told lent after → WrittenAs (checked_in j starts (length lent)) told lent after
  unfolding checked_in
  check_found found same w = rw (← same) w

-- ---- two texts

pub refusal_lent : {number place : ℕ} {lent : List ℕ} {answer : Answer} → answer ≡ answer_for (refused number place) → LentAs (refused number place) answer lent lent
unfolding lent_after
refusal_lent t = record { answered = t; list = refl }

pub texts_for : (texts : TextsChecked) {t : TextsChecked} → t ≡ texts → {answer : Answer} {told : TextsAnswer} {lent after : List ℕ}
    → told ≡ about_text (refused_text t) answer → LentAs (clash_in t (length lent)) answer lent after → TextsFor texts told lent after
texts_for texts {t} same told l =
    rw (← same) (record { answered = told ∙ ap (about_text (refused_text t)) l.answered; list = l.list })
