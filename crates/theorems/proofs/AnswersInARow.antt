-- What the planner and the writer answer, and when; and that the answer from bytes is reader, planner and writer in a row: no
-- later step refuses what the reader accepted.
use mathlib.Core.Path.{◌≡◌, refl, sym, ◌∙◌}
use mathlib.Core.List.{List}
use mathlib.Core.Logic.Iff
use mathlib.Core.Logic.{◌↔◌}
use Prim.Native.Nat.{ℕ, ◌≤◌}
use lib.Dec.{leb}
use lib.ListN.{length}
use Rattle.rules.specs.Sizes.{packets_most, plan_most}
use Rattle.rules.specs.Network.{Job}
use Rattle.rules.specs.Outcome.{Outcome, is, refused, Verdict, fine, must, ◌then◌, onward}
use Rattle.rules.specs.Tables.{tables}
use Rattle.rules.specs.Greedy.{greedy}
use Rattle.rules.specs.JobText.{reading}
use Rattle.rules.specs.PlanText.{text_of_plan}
use Rattle.rules.specs.Answers.{started_verdict, in_room, planned, written, answer}
use Rattle.theorems.proofs.Verdicts.{leb_iff, is_iff, must-iff, then_iff, onward_of}
use Rattle.theorems.proofs.TextJobs.{reading_job, reading_accepted}
use Rattle.theorems.proofs.Started.{started_plan_length, greedy_started}

-- an answer a after a check, where the room holds n places
pub room_iff : {A : Type 0} (v : Verdict) (n room : ℕ) (a b : A) → (v then must (leb n room) 10 0 then is a ≡ is b) ↔ ((v ≡ fine) × (n ≤ room) × (b ≡ a))
room_iff v n room a b =
    Iff.trans (then_iff Iff.rfl (then_iff (must-iff 10 0 (leb_iff n room)) is_iff)) (λ (f, (l, e)). (f, l, sym e), λ (f, l, e). (f, (l, sym e)))

pub planned-iff : (j : Job) (room : ℕ) (ss : List ℕ) → (planned j room ≡ is ss) ↔ ((tables j ≡ fine) × (length j.sources ≤ room) × (ss ≡ greedy j))
unfolding planned
planned-iff j room ss = room_iff (tables j) (length j.sources) room (greedy j) ss

pub written-iff : (j : Job) (starts : List ℕ) (room : ℕ) (text : List ℕ) → (written j starts room ≡ is text) ↔ ((started_verdict j starts ≡ fine) × (length (text_of_plan j starts) ≤ room) × (text ≡ text_of_plan j starts))
unfolding written in_room
written-iff j starts room text = room_iff (started_verdict j starts) (length (text_of_plan j starts)) room (text_of_plan j starts) text

pub answer_in_a_row : (text : List ℕ) → answer text ≡ onward (reading text) (λ j. onward (planned j packets_most) (λ ss. written j ss plan_most))
unfolding answer
answer_in_a_row text = go (reading text) refl
  where
    go : (o : Outcome Job) → reading text ≡ o → onward o (λ j. is (text_of_plan j (greedy j))) ≡ onward o (λ j. onward (planned j packets_most) (λ ss. written j ss plan_most))
    go (refused number place) e = refl
    go (is j) e =
        let accepted = reading_accepted text j e in
        let started = greedy_started j accepted in
        let plan = (planned-iff j packets_most (greedy j)).1 (accepted, (reading_job text j e).few_packets, refl) in
        sym (onward_of plan _ ∙ (written-iff j (greedy j) plan_most _).1 (started, started_plan_length j (greedy j) started, refl))
