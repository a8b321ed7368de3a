-- Document 01, "Sessions to try": every starred one, as a row of one table. Proved by computation from the job's bytes. The last
-- is as document 02, request 3, has it: a packet without hops is refused.
use mathlib.Core.Path.{◌≡◌, refl}
use mathlib.Core.List.{List, [], ◌∷◌, ◌++◌}
use mathlib.Core.Option.{Option, none, some}
use Prim.Native.Nat.{ℕ}
use lib.IntN.{ℤ, pos, negsuc}
use Rattle.rules.specs.Network.{link_at, paths_from, paths, packets_of, packets}
use Rattle.rules.specs.Travel.{delay_of, travel}
use Rattle.rules.specs.Outcome.{is, onward}
use Rattle.rules.specs.Tables.{link_verdict, walk, packet_verdict, links_verdict, packets_verdict, stops_agree, tables}
use Rattle.rules.specs.Claims.{link_claims, claims_of, claims, placed, takes, conflict, blocked}
use Rattle.rules.specs.Greedy.{scan, crossings, first_free, greedy_after, greedy}
use Rattle.rules.specs.Counts.{end_of, routing_time, load, congestion, dilation, shared, meetings_with, meetings_after, meetings}
use Rattle.rules.specs.Check.{Clash, holder, clash_of, clash_after}
use Rattle.rules.specs.Lead.{entry_step, entry_at, lead}
use Rattle.rules.specs.Bytes.{letter_n, letter_l, letter_p, letter_s, letter_t, digits, decimal, fields_text, line_text, value_after, number_of, numbers_of, split}
use Rattle.rules.specs.JobText.{line_of, with_line, with_lines, reading}
use Rattle.rules.specs.PlanText.{packet_lines, text_of_plan}
use Rattle.rules.specs.Answers.{starts_verdict, started_verdict, checked, led, answer, printed, plans}

-- a session: a job's text, what is asked of it, and what is told
pub data Session : Type 0 where
  prints : (job told : List ℕ) → Session
  starts : (job told : List ℕ) → Session
  meets : (job told : List ℕ) → Session
  checks : (job starts : List ℕ) (told : Option Clash) → Session
  leads : (job : List ℕ) (a b link : ℕ) (told : ℤ) → Session

abbrev pub Holds : Session → Type 0
Holds (prints job told) = plans job ≡ told
Holds (starts job told) = onward (reading job) (λ j. is (greedy j)) ≡ is told
Holds (meets job told) = onward (reading job) (λ j. is (meetings j)) ≡ is told
Holds (checks job ss told) = onward (reading job) (λ j. checked j ss) ≡ is told
Holds (leads job a b link told) = onward (reading job) (λ j. led j (greedy j) a b link) ≡ is told

-- the statement holds of every row of a table
abbrev pub AllHold : {A : Type 0} → (A → Type 0) → List A → Type 0
AllHold P [] = Unit
AllHold P (row ∷ rows) = P row × AllHold P rows

-- job A and its plan, byte for byte
abbrev pub job_a : List ℕ
job_a =
    78 ∷ 9 ∷ 52 ∷ 10
    ∷ 76 ∷ 9 ∷ 48 ∷ 9 ∷ 49 ∷ 10
    ∷ 76 ∷ 9 ∷ 49 ∷ 9 ∷ 50 ∷ 10
    ∷ 76 ∷ 9 ∷ 50 ∷ 9 ∷ 51 ∷ 10
    ∷ 80 ∷ 9 ∷ 48 ∷ 9 ∷ 48 ∷ 9 ∷ 49 ∷ 9 ∷ 50 ∷ 10
    ∷ 80 ∷ 9 ∷ 49 ∷ 9 ∷ 49 ∷ 9 ∷ 50 ∷ 10
    ∷ 80 ∷ 9 ∷ 48 ∷ 9 ∷ 48 ∷ 9 ∷ 49 ∷ 10
    ∷ 80 ∷ 9 ∷ 50 ∷ 9 ∷ 50 ∷ 10
    ∷ []

abbrev pub plan_a : List ℕ
plan_a =
    83 ∷ 9 ∷ 48 ∷ 9 ∷ 48 ∷ 9 ∷ 51 ∷ 10
    ∷ 83 ∷ 9 ∷ 49 ∷ 9 ∷ 48 ∷ 9 ∷ 50 ∷ 10
    ∷ 83 ∷ 9 ∷ 50 ∷ 9 ∷ 49 ∷ 9 ∷ 51 ∷ 10
    ∷ 83 ∷ 9 ∷ 51 ∷ 9 ∷ 48 ∷ 9 ∷ 49 ∷ 10
    ∷ 84 ∷ 9 ∷ 51 ∷ 9 ∷ 51 ∷ 9 ∷ 51 ∷ 10
    ∷ []

-- the other jobs, by their lines
abbrev pub N : ℕ → List ℕ
N n = line_text letter_n (n ∷ [])

abbrev pub L : ℕ → ℕ → List ℕ
L from to = line_text letter_l (from ∷ to ∷ [])

abbrev pub P : ℕ → List ℕ → List ℕ
P source path = line_text letter_p (source ∷ path)

abbrev pub S : ℕ → ℕ → ℕ → List ℕ
S packet start end = line_text letter_s (packet ∷ start ∷ end ∷ [])

abbrev pub T : ℕ → ℕ → ℕ → List ℕ
T time c d = line_text letter_t (time ∷ c ∷ d ∷ [])

abbrev links_a : List ℕ
links_a = N 4 ++ L 0 1 ++ L 1 2 ++ L 2 3

abbrev five_links : List ℕ
five_links = N 5 ++ L 0 1 ++ L 1 2 ++ L 2 3 ++ L 1 4 ++ L 4 2

abbrev pub two_way : List ℕ
two_way = N 2 ++ L 0 1 ++ L 1 0

unfoldable pub table : List Session
table =
    prints job_a plan_a
    ∷ meets job_a (0 ∷ 2 ∷ 3 ∷ 2 ∷ [])
    ∷ checks job_a (0 ∷ 0 ∷ 5 ∷ 9 ∷ []) none
    ∷ checks job_a (0 ∷ 0 ∷ 0 ∷ 0 ∷ []) (some (record { later = 2; earlier = 0; resource = 0; step = 0 }))
    ∷ checks job_a (0 ∷ 1 ∷ 0 ∷ 0 ∷ []) (some (record { later = 1; earlier = 0; resource = 1; step = 1 }))
    ∷ leads job_a 1 0 1 (negsuc 0)
    ∷ leads job_a 0 1 1 (pos 1)
    ∷ starts (N 2 ++ L 0 1 ++ P 0 (0 ∷ []) ++ P 0 (0 ∷ []) ++ P 0 (0 ∷ [])) (0 ∷ 1 ∷ 2 ∷ [])
    ∷ starts (links_a ++ P 0 (0 ∷ 1 ∷ []) ++ P 1 (1 ∷ []) ++ P 1 (1 ∷ [])) (0 ∷ 0 ∷ 2 ∷ [])
    ∷ starts (five_links ++ P 0 (0 ∷ 3 ∷ 4 ∷ 2 ∷ []) ++ P 0 (0 ∷ 1 ∷ 2 ∷ [])) (0 ∷ 2 ∷ [])
    ∷ prints (two_way ++ P 0 (0 ∷ 1 ∷ [])) (82 ∷ 9 ∷ 56 ∷ 9 ∷ 52 ∷ 10 ∷ [])
    ∷ prints (two_way ++ P 0 (1 ∷ [])) (82 ∷ 9 ∷ 55 ∷ 9 ∷ 52 ∷ 10 ∷ [])
    ∷ starts (two_way ++ P 0 (0 ∷ []) ++ P 1 (1 ∷ [])) (0 ∷ 0 ∷ [])
    ∷ prints (N 1) (T 0 0 0)
    ∷ prints (N 1 ++ P 0 []) (82 ∷ 9 ∷ 49 ∷ 53 ∷ 9 ∷ 50 ∷ 10 ∷ [])
    ∷ []

pub sessions : AllHold Holds table
unfolding table
    link_at paths_from paths packets_of packets delay_of travel link_verdict walk packet_verdict links_verdict packets_verdict stops_agree tables
    link_claims claims_of claims placed takes conflict blocked scan crossings first_free greedy_after greedy end_of routing_time load congestion dilation shared meetings_with meetings_after meetings holder clash_of clash_after entry_step entry_at lead
    digits decimal fields_text line_text value_after number_of numbers_of split line_of with_line with_lines reading packet_lines text_of_plan
    starts_verdict started_verdict checked led answer printed plans
sessions = (refl, (refl, (refl, (refl, (refl, (refl, (refl, (refl, (refl, (refl, (refl, (refl, (refl, (refl, (refl, tt)))))))))))))))
