-- Document 01, "Job text and plan text": what `plan` prints in a lent room.
use Rattle.std.specs.Prelude.{◌≡◌, List, ℕ, length}
use Rattle.rules.specs.Outcome.{is}
use Rattle.rules.specs.Answers.{lent_after}

-- a text that is printed: the number of its bytes, and the lent room afterwards
pub record PrintedAs (text : List ℕ) (count : ℕ) (lent after : List ℕ) : Type 0 where
  pub bytes : count ≡ length text
  pub room : after ≡ lent_after (is text) lent
