-- By which numbers the functions that read texts refuse: by those of a text, or by 10; and a plan's by its own.
use mathlib.Core.Path.{◌≡◌, refl, sym}
use mathlib.Core.Bool.{Bool, true, false}
use mathlib.Core.Logic.{◌⊎◌, inl, inr}
use mathlib.Core.List.{List}
use Prim.Native.Nat.{ℕ}
use lib.Dec.{leb}
use lib.ListN.{length}
use Rattle.counting.specs.Count.{among}
use Rattle.rules.specs.Network.{Job}
use Rattle.rules.specs.Outcome.{Outcome, is, refused, must, ◌then◌, onward}
use Rattle.rules.specs.Answers.{in_room, answer, answered, plan_read_in}
use Rattle.rules.specs.PlanBack.{read_back}
use Rattle.theorems.specs.Jobs.{IsJob}
use Rattle.theorems.specs.TextNumbers.{text_numbers, plan_numbers, RefusedBy}
use Rattle.theorems.proofs.Verdicts.{refused_not_is, refused_same}
use Rattle.theorems.proofs.TextRefusals.{answer_refused}
use Rattle.theorems.proofs.PlanBackRefused.{read_back_refused}

-- what is refused by some numbers is refused, with a room, by these or by 10
in_room_refuses : {numbers : List ℕ} {last : ℕ} (o : Outcome (List ℕ)) (room : ℕ) {n p : ℕ} → RefusedBy numbers last o
    → onward o (λ a. in_room a room) ≡ refused n p → (among n numbers ≡ true) ⊎ (n ≡ 10)
unfolding in_room
in_room_refuses (is a) room {n} {p} h e = inr (short (leb (length a) room) e)
  where
    short : (t : Bool) → must t 10 0 then is a ≡ refused n p → n ≡ 10
    short true e = absurd (refused_not_is (sym e))
    short false e = sym (refused_same e).0
in_room_refuses (refused k q) room h e = inl (rw (sym (refused_same e).0) (h.number refl))

pub answered_refuses : (text : List ℕ) (room : ℕ) {n p : ℕ} → answered text room ≡ refused n p → (among n text_numbers ≡ true) ⊎ (n ≡ 10)
unfolding answered
answered_refuses text room e = in_room_refuses (answer text) room (answer_refused text) e

-- for lists that are a job
pub read_plan_refuses : (j : Job) → IsJob j → (plan : List ℕ) (room : ℕ) {n p : ℕ} → plan_read_in j plan room ≡ refused n p
    → (among n plan_numbers ≡ true) ⊎ (n ≡ 10)
unfolding plan_read_in
read_plan_refuses j job plan room e = in_room_refuses (read_back j plan) room (read_back_refused j plan job) e
