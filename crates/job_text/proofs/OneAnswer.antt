-- The reader's contract has one outcome: two answers that meet it, with the lists they leave, are equal.
use mathlib.Core.Path.{◌≡◌, sym, ◌∙◌}
use Rattle.std.specs.Prelude.{Result}
use Rattle.rules.specs.Network.{Job}
use Rattle.rules.specs.Outcome.{Outcome}
use Rattle.job.specs.declared.Job.{Job as Counts}
use Rattle.job.specs.declared.Refusal.{Refusal}
use Rattle.job.proofs.OneAnswer.{outcome_injective}
use Rattle.job_text.specs.Told.{Lists, reading_of, ReadAs}

pub reading_injective : (r s : Result Counts Refusal) → reading_of r ≡ reading_of s → r ≡ s
reading_injective = outcome_injective (λ counts. counts) (λ a b e. e)

pub read_once : {outcome : Outcome Job} {r s : Result Counts Refusal} {lent after other : Lists} → ReadAs outcome r lent after → ReadAs outcome s lent other → (r ≡ s) × (after ≡ other)
read_once p q = (reading_injective _ _ (p.answer ∙ sym q.answer), p.lists ∙ sym q.lists)
