-- What the answers of the code mean: the papers' number and place for each refusal.
use Rattle.std.specs.Prelude.{ℕ, Result, Ok, Err}
use Rattle.rules.specs.Outcome.{Outcome, is, refused, Verdict}
use Rattle.job.specs.declared.Refusal.{Refusal}
use Rattle.job.specs.declared.Refusal.TheVariants.{TextTooLong, BadForm, Size, NoNode, SelfLink, NoLink, NotLeaving, Revisited, Disagree, ShortRoom, StartCount, LateStart, NoLead, NotFollowing, NoHops}

-- number and place of each, as in the table of document 01, "Refusals and their order", and in requests 1 and 3 of document 02
abbrev pub number_place : Refusal → ℕ × ℕ
number_place TextTooLong = (1, 0)
number_place (BadForm line) = (2, line)
number_place (Size place) = (3, place)
number_place (NoNode place) = (4, place)
number_place (SelfLink place) = (5, place)
number_place (NoLink place) = (6, place)
number_place (NotLeaving place) = (7, place)
number_place (Revisited place) = (8, place)
number_place Disagree = (9, 0)
number_place ShortRoom = (10, 0)
number_place StartCount = (11, 0)
number_place (LateStart place) = (12, place)
number_place NoLead = (13, 0)
number_place (NotFollowing line) = (14, line)
number_place (NoHops place) = (15, place)

abbrev pub refusal_of : {A : Type 0} → Refusal → Outcome A
refusal_of r = refused (number_place r).0 (number_place r).1

-- what the code answers, as the rules have it: its value, seen by f, or the refusal
abbrev pub outcome_of : {A B : Type 0} → (A → B) → Result A Refusal → Outcome B
outcome_of f (Ok a) = is (f a)
outcome_of f (Err r) = refusal_of r

abbrev pub verdict_of : Result Unit Refusal → Verdict
verdict_of = outcome_of (λ u. u)
