-- By which numbers a text is refused, and where.
use Rattle.std.specs.Prelude.{◌≡◌, true, List, [], ◌∷◌, ℕ, ◌≤◌}
use Rattle.counting.specs.Count.{among}
use Rattle.rules.specs.Outcome.{Outcome, refused}

-- a line of it
abbrev pub line_numbers : List ℕ
line_numbers = 2 ∷ 3 ∷ 4 ∷ 5 ∷ 6 ∷ 7 ∷ 8 ∷ 15 ∷ []

-- or the text, for its length
abbrev pub text_numbers : List ℕ
text_numbers = 1 ∷ line_numbers

-- a plan's text, for a job that is accepted: its length, a line's form, how many S lines there are, a start, what does not follow
abbrev pub plan_numbers : List ℕ
plan_numbers = 1 ∷ 2 ∷ 11 ∷ 12 ∷ 14 ∷ []

-- what is refused has one of the numbers, and a place up to `last`
pub record RefusedBy {A : Type 0} (numbers : List ℕ) (last : ℕ) (o : Outcome A) : Type 0 where
  pub number : {n p : ℕ} → o ≡ refused n p → among n numbers ≡ true
  pub place : {n p : ℕ} → o ≡ refused n p → p ≤ last
