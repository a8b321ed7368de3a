-- Document 02, request 1, "Read plans back": plans for session A read back, what is accepted and each refusal in its order, and what
-- `check` prints, as rows of one table. Proved by computation from the bytes.
use mathlib.Core.Path.{◌≡◌, refl}
use mathlib.Core.List.{List, [], ◌∷◌, ◌++◌}
use Prim.Native.Nat.{ℕ}
use Rattle.rules.specs.Network.{link_at, paths_from, paths, packets_of, packets}
use Rattle.rules.specs.Travel.{delay_of, travel}
use Rattle.rules.specs.Outcome.{Outcome, is, refused, onward}
use Rattle.rules.specs.Tables.{link_verdict, walk, packet_verdict, links_verdict, packets_verdict, stops_agree, tables}
use Rattle.rules.specs.Claims.{link_claims, claims_of, claims, placed, takes}
use Rattle.rules.specs.Counts.{end_of, routing_time, load, congestion, dilation}
use Rattle.rules.specs.Check.{holder, clash_of, clash_after}
use Rattle.rules.specs.Bytes.{line_feed, letter_r, letter_s, letter_t}
use Rattle.rules.specs.Bytes.{digits, decimal, fields_text, line_text, value_after, number_of, numbers_of, split}
use Rattle.rules.specs.JobText.{line_of, with_line, with_lines, reading}
use Rattle.rules.specs.PlanBack.{three_of, rows_from, last_line, rows_verdict, totals_verdict, followed, with_rows, read_back}
use Rattle.rules.specs.Answers.{starts_verdict, started_verdict, checked}
use Rattle.rules.specs.CheckedTexts.{checked_texts, checks}
use Rattle.rules.proofs.Sessions.{P, AllHold, job_a, plan_a, N, L, S, T}

-- a plan for job A and what it is read as; or two texts and what `check` prints
pub data Reading : Type 0 where
  reads : (plan : List ℕ) (told : Outcome (List ℕ)) → Reading
  prints : (job plan told : List ℕ) → Reading

abbrev pub Holds : Reading → Type 0
Holds (reads plan told) = onward (reading job_a) (λ j. read_back j plan) ≡ told
Holds (prints job plan told) = checks job plan ≡ told

-- the first three lines of A's plan, and the first four
abbrev three : List ℕ
three = S 0 0 3 ++ S 1 0 2 ++ S 2 1 3

abbrev four : List ℕ
four = three ++ S 3 0 1

-- the plan with all starts 0
abbrev all_zero : List ℕ
all_zero = S 0 0 3 ++ S 1 0 2 ++ S 2 0 2 ++ S 3 0 1 ++ T 3 3 3

-- a T line without D
abbrev bad_t : List ℕ
bad_t = line_text letter_t (3 ∷ 3 ∷ [])

unfoldable pub table : List Reading
table =
    -- what is accepted
    reads plan_a (is (0 ∷ 0 ∷ 1 ∷ 0 ∷ []))
    ∷ reads (S 0 0 3 ++ S 1 0 2 ++ S 2 5 7 ++ S 3 9 10 ++ T 10 3 3) (is (0 ∷ 0 ∷ 5 ∷ 9 ∷ []))
    ∷ reads all_zero (is (0 ∷ 0 ∷ 0 ∷ 0 ∷ []))
    ∷ reads (three ++ S 3 32767 32768 ++ T 32768 3 3) (is (0 ∷ 0 ∷ 1 ∷ 32767 ∷ []))
    -- an S line: its packet number, a field missing, a field or a letter too many, a leading zero, a carriage return, a number too large,
    -- and one that is cut
    ∷ reads (three ++ S 4 0 1 ++ T 3 3 3) (refused 2 4)
    ∷ reads (S 1 0 2 ++ S 0 0 3 ++ S 2 1 3 ++ S 3 0 1 ++ T 3 3 3) (refused 2 1)
    ∷ reads (three ++ line_text letter_s (3 ∷ 0 ∷ []) ++ T 3 3 3) (refused 2 4)
    ∷ reads (three ++ line_text letter_s (3 ∷ 0 ∷ 1 ∷ 1 ∷ []) ++ T 3 3 3) (refused 2 4)
    ∷ reads (three ++ letter_s ∷ S 3 0 1 ++ T 3 3 3) (refused 2 4)
    ∷ reads (three ++ (83 ∷ 9 ∷ 48 ∷ 51 ∷ 9 ∷ 48 ∷ 9 ∷ 49 ∷ 10 ∷ []) ++ T 3 3 3) (refused 2 4)
    ∷ reads (three ++ (83 ∷ 9 ∷ 51 ∷ 9 ∷ 48 ∷ 9 ∷ 49 ∷ 13 ∷ 10 ∷ []) ++ T 3 3 3) (refused 2 4)
    ∷ reads (three ++ S 3 65536 65537 ++ T 65537 3 3) (refused 2 4)
    ∷ reads (three ++ (83 ∷ 9 ∷ 51 ∷ 9 ∷ 48 ∷ 9 ∷ 49 ∷ [])) (refused 2 4)
    -- how many S lines: too few, none, too many; a misnumbered one behind too many comes first
    ∷ reads (three ++ T 3 3 3) (refused 11 0)
    ∷ reads [] (refused 11 0)
    ∷ reads (T 0 0 0) (refused 11 0)
    ∷ reads (four ++ S 4 0 1 ++ T 3 3 3) (refused 11 0)
    ∷ reads (four ++ S 4 0 1 ++ S 6 0 1 ++ T 3 3 3) (refused 2 6)
    ∷ reads (three ++ bad_t) (refused 11 0)
    -- the T line: missing, an empty line for it, another letter, a field missing, cut
    ∷ reads four (refused 2 5)
    ∷ reads (four ++ line_feed ∷ []) (refused 2 5)
    ∷ reads (four ++ line_text letter_r (3 ∷ 3 ∷ 3 ∷ [])) (refused 2 5)
    ∷ reads (four ++ bad_t) (refused 2 5)
    ∷ reads (four ++ (84 ∷ 9 ∷ 51 ∷ 9 ∷ 51 ∷ 9 ∷ 51 ∷ [])) (refused 2 5)
    -- what stands after it: a line feed, a T line, an S line, a letter
    ∷ reads (plan_a ++ line_feed ∷ []) (refused 2 6)
    ∷ reads (plan_a ++ T 3 3 3) (refused 2 6)
    ∷ reads (plan_a ++ S 4 0 1) (refused 2 6)
    ∷ reads (plan_a ++ letter_t ∷ []) (refused 2 6)
    -- what does not follow: a start too late, an end, the routing time, C, D
    ∷ reads (three ++ S 3 32768 32769 ++ T 32769 3 3) (refused 12 4)
    ∷ reads (S 0 0 3 ++ S 1 0 2 ++ S 2 1 4 ++ S 3 0 1 ++ T 4 3 3) (refused 14 3)
    ∷ reads (four ++ T 4 3 3) (refused 14 5)
    ∷ reads (four ++ T 3 2 3) (refused 14 5)
    ∷ reads (four ++ T 3 3 2) (refused 14 5)
    -- which comes first: 12 before 14 on a line, a line before the lines below it, and 2 at T before both
    ∷ reads (three ++ S 3 32768 1 ++ T 3 3 3) (refused 12 4)
    ∷ reads (S 0 0 2 ++ S 1 0 2 ++ S 2 1 3 ++ S 3 32768 32769 ++ T 32769 3 3) (refused 14 1)
    ∷ reads (S 0 32768 32771 ++ S 1 0 3 ++ S 2 1 3 ++ S 3 0 1 ++ T 32771 3 3) (refused 12 1)
    ∷ reads (S 0 0 2 ++ S 1 0 2 ++ S 2 1 3 ++ S 3 0 1 ++ T 4 3 3) (refused 14 1)
    ∷ reads (three ++ S 3 32768 32769 ++ bad_t) (refused 2 5)
    ∷ reads (S 0 0 2 ++ S 1 0 2 ++ S 2 1 3 ++ S 3 0 1 ++ T 3 3 3 ++ line_feed ∷ []) (refused 2 6)
    -- what `check` prints: clear, a clash, another, one whose link is not its step, refused plans, a refused job whatever its plan; without packets, clear and refused
    ∷ prints job_a plan_a (99 ∷ 108 ∷ 101 ∷ 97 ∷ 114 ∷ 10 ∷ [])
    ∷ prints job_a all_zero (67 ∷ 9 ∷ 50 ∷ 9 ∷ 48 ∷ 9 ∷ 48 ∷ 9 ∷ 48 ∷ 10 ∷ [])
    ∷ prints job_a (S 0 0 3 ++ S 1 1 3 ++ S 2 0 2 ++ S 3 0 1 ++ T 3 3 3) (67 ∷ 9 ∷ 49 ∷ 9 ∷ 48 ∷ 9 ∷ 49 ∷ 9 ∷ 49 ∷ 10 ∷ [])
    ∷ prints job_a (S 0 5 8 ++ S 1 6 8 ++ S 2 0 2 ++ S 3 0 1 ++ T 8 3 3) (67 ∷ 9 ∷ 49 ∷ 9 ∷ 48 ∷ 9 ∷ 49 ∷ 9 ∷ 54 ∷ 10 ∷ [])
    ∷ prints job_a (three ++ S 4 0 1 ++ T 3 3 3) (81 ∷ 9 ∷ 50 ∷ 9 ∷ 52 ∷ 10 ∷ [])
    ∷ prints job_a four (81 ∷ 9 ∷ 50 ∷ 9 ∷ 53 ∷ 10 ∷ [])
    ∷ prints (N 1 ++ L 0 0) (T 0 0 0) (82 ∷ 9 ∷ 53 ∷ 9 ∷ 50 ∷ 10 ∷ [])
    ∷ prints (N 1 ++ L 0 0) bad_t (82 ∷ 9 ∷ 53 ∷ 9 ∷ 50 ∷ 10 ∷ [])
    ∷ prints (N 1) (T 0 0 0) (99 ∷ 108 ∷ 101 ∷ 97 ∷ 114 ∷ 10 ∷ [])
    ∷ prints (N 1) [] (81 ∷ 9 ∷ 50 ∷ 9 ∷ 49 ∷ 10 ∷ [])
    -- where C is 1 and D is 2, and where they are told for each other
    ∷ prints (N 3 ++ L 0 1 ++ L 1 2 ++ P 0 (0 ∷ 1 ∷ [])) (S 0 4 6 ++ T 6 1 2) (99 ∷ 108 ∷ 101 ∷ 97 ∷ 114 ∷ 10 ∷ [])
    ∷ prints (N 3 ++ L 0 1 ++ L 1 2 ++ P 0 (0 ∷ 1 ∷ [])) (S 0 4 6 ++ T 6 2 1) (81 ∷ 9 ∷ 49 ∷ 52 ∷ 9 ∷ 50 ∷ 10 ∷ [])
    ∷ []

pub readings : AllHold Holds table
unfolding table
    link_at paths_from paths packets_of packets delay_of travel link_verdict walk packet_verdict links_verdict packets_verdict stops_agree tables
    link_claims claims_of claims placed takes end_of routing_time load congestion dilation holder clash_of clash_after
    digits decimal fields_text line_text value_after number_of numbers_of split line_of with_line with_lines reading
    three_of rows_from last_line rows_verdict totals_verdict followed with_rows read_back starts_verdict started_verdict checked checked_texts checks
readings = (refl, (refl, (refl, (refl, (refl, (refl, (refl, (refl, (refl, (refl, (refl, (refl, (refl, (refl, (refl, (refl, (refl, (refl, (refl, (refl, (refl, (refl, (refl, (refl, (refl, (refl, (refl, (refl, (refl, (refl, (refl, (refl, (refl, (refl, (refl, (refl, (refl, (refl, (refl, (refl, (refl, (refl, (refl, (refl, (refl, (refl, (refl, (refl, (refl, (refl, (refl, tt)))))))))))))))))))))))))))))))))))))))))))))))))))
