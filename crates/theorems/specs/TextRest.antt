-- What is left of a text, below the lines that were read.
use Rattle.std.specs.Prelude.{List, [], ◌∷◌, ℕ}
use Rattle.rules.specs.Network.{Job}
use Rattle.rules.specs.Outcome.{Outcome, is}
use Rattle.rules.specs.JobText.{with_lines}

-- the job with the pieces that are left, from line n on; where none is left, it stands
abbrev pub with_rest : ℕ → Job → List (List ℕ) → Outcome Job
with_rest n j [] = is j
with_rest n j (p ∷ ps) = with_lines n j p ps
