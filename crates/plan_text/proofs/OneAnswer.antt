-- Each contract has one outcome: two answers that meet it, with the lists they leave, are equal.
use Rattle.std.proofs.Common.{◌≡◌, List, ℕ, Result, sym, ◌∙◌}
use Rattle.rules.specs.Outcome.{Outcome}
use Rattle.job.specs.declared.Refusal.{Refusal}
use Rattle.job.proofs.OneAnswer.{outcome_injective, verdict_injective}
use Rattle.plan_text.specs.Told.{written_of, WrittenAs, ReadBackAs}

pub written_injective : (v w : Result ℕ Refusal) → written_of v ≡ written_of w → v ≡ w
written_injective = outcome_injective (λ count. count) (λ a b e. e)

pub written_once : {answer : Outcome (List ℕ)} {v w : Result ℕ Refusal} {lent after other : List ℕ} → WrittenAs answer v lent after → WrittenAs answer w lent other → (v ≡ w) × (after ≡ other)
written_once p q = (written_injective _ _ (p.bytes ∙ sym q.bytes), p.room ∙ sym q.room)

pub read_back_once : {answer : Outcome (List ℕ)} {v w : Result Unit Refusal} {lent after other : List ℕ} → ReadBackAs answer v lent after → ReadBackAs answer w lent other → (v ≡ w) × (after ≡ other)
read_back_once p q = (verdict_injective _ _ (p.verdict ∙ sym q.verdict), p.starts ∙ sym q.starts)
