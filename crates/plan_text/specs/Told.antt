-- What the writer's and the reader's answers mean, in the terms of the rules.
use Rattle.std.specs.Prelude.{◌≡◌, List, ℕ, length, Result}
use Rattle.rules.specs.Outcome.{Outcome, is, fine, onward}
use Rattle.rules.specs.Answers.{lent_after}
use Rattle.job.specs.declared.Refusal.{Refusal}
use Rattle.job.specs.Told.{outcome_of, verdict_of}

abbrev pub written_of : Result ℕ Refusal → Outcome ℕ
written_of = outcome_of (λ count. count)

-- the number of bytes or the refusal, and the lent room afterwards
pub record WrittenAs (answer : Outcome (List ℕ)) (told : Result ℕ Refusal) (lent after : List ℕ) : Type 0 where
  pub bytes : written_of told ≡ onward answer (λ text. is (length text))
  pub room : after ≡ lent_after answer lent

-- the reader's verdict, and the lent list of starts afterwards
pub record ReadBackAs (answer : Outcome (List ℕ)) (told : Result Unit Refusal) (lent after : List ℕ) : Type 0 where
  pub verdict : verdict_of told ≡ onward answer (λ starts. fine)
  pub starts : after ≡ lent_after answer lent
