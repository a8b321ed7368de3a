-- Document 01, "Refusals and their order", what follows on tables, with the reader of plans of document 02, request 1; and the one
-- answer from bytes.
use Rattle.std.specs.Prelude.{List, [], ◌∷◌, ◌++◌, ℕ, suc, eqb, leb, length, drop, ℤ}
use Rattle.std.proofs.Math.Option.{Option}
use Rattle.rules.specs.Sizes.{start_most}
use Rattle.rules.specs.Network.{Job, paths}
use Rattle.rules.specs.Travel.{delay_in}
use Rattle.rules.specs.Outcome.{Outcome, is, refused, Verdict, fine, must, ◌then◌, onward}
use Rattle.rules.specs.Tables.{tables}
use Rattle.rules.specs.Claims.{claims, placed}
use Rattle.rules.specs.Greedy.{greedy}
use Rattle.rules.specs.Check.{Clash, clash_after}
use Rattle.rules.specs.Lead.{lead}
use Rattle.rules.specs.Bytes.{letter_r, line_text}
use Rattle.rules.specs.JobText.{reading}
use Rattle.rules.specs.PlanText.{text_of_plan}
use Rattle.rules.specs.PlanBack.{read_back}

-- 12 at the lowest packet, counted from k, whose start is too late
unfoldable pub starts_verdict : ℕ → List ℕ → Verdict
starts_verdict k [] = fine
starts_verdict k (s ∷ ss) = must (leb s start_most) 12 k then starts_verdict (suc k) ss

-- a job with starts made elsewhere: tables, 11, 12
unfoldable pub started_verdict : Job → List ℕ → Verdict
started_verdict j starts = tables j then must (eqb (length starts) (length j.sources)) 11 0 then starts_verdict 0 starts

-- the answer, where the room holds it; 10 comes after every other refusal
unfoldable pub in_room : List ℕ → ℕ → Outcome (List ℕ)
in_room answer room = must (leb (length answer) room) 10 0 then is answer

-- a list lent for an answer, afterwards: the answer stands in its first places, and a refusal leaves it as it was
unfoldable pub lent_after : Outcome (List ℕ) → List ℕ → List ℕ
lent_after (is answer) lent = answer ++ drop (length answer) lent
lent_after (refused number place) lent = lent

-- the planner, with room for so many starts
unfoldable pub planned : Job → ℕ → Outcome (List ℕ)
planned j room = tables j then must (leb (length j.sources) room) 10 0 then is (greedy j)

-- the check: none is clear
unfoldable pub checked : Job → List ℕ → Outcome (Option Clash)
checked j starts = started_verdict j starts then is (clash_after [] (placed starts (claims j)))

-- the lead
unfoldable pub led : Job → List ℕ → ℕ → ℕ → ℕ → Outcome ℤ
led j starts a b link = started_verdict j starts then lead (delay_in j) starts (paths j) a b link

-- the text writer, with room for so many bytes
unfoldable pub written : Job → List ℕ → ℕ → Outcome (List ℕ)
written j starts room = started_verdict j starts then in_room (text_of_plan j starts) room

-- the reader of plans, with room for so many starts
unfoldable pub plan_read_in : Job → (plan : List ℕ) → ℕ → Outcome (List ℕ)
plan_read_in j plan room = onward (read_back j plan) (λ starts. in_room starts room)

-- from a job's bytes: its plan's bytes, or the refusal
unfoldable pub answer : List ℕ → Outcome (List ℕ)
answer text = onward (reading text) (λ j. is (text_of_plan j (greedy j)))

-- the same with room for so many bytes: 10 comes after every other refusal
unfoldable pub answered : List ℕ → ℕ → Outcome (List ℕ)
answered text room = onward (answer text) (λ plan. in_room plan room)

-- an answer as it is printed
unfoldable pub printed : Outcome (List ℕ) → List ℕ
printed (is text) = text
printed (refused number place) = line_text letter_r (number ∷ place ∷ [])

-- what `plan` prints for a job's bytes
unfoldable pub plans : List ℕ → List ℕ
plans text = printed (answer text)
