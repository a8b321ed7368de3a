-- It is 12 for the first that is too late.
use Rattle.std.proofs.Common.{◌≡◌, arith, nat_lt, sym, ap, ◌∙◌, rules, tests}
use Rattle.std.specs.List.{position}
use Rattle.std.proofs.lemmas.Grind.{common_steps}
use Rattle.std.proofs.lemmas.Iterator.{YieldsList-from_slice}
use Rattle.std.proofs.lemmas.Iterator.Search.{position_from_yields_List}
use Rattle.rules.specs.Sizes.{start_most}
use Rattle.rules.specs.Outcome.{refused}
use Rattle.job.proofs.VerdictLoops.{late_at, first_late}
use Rattle.job.proofs.starts_verdict.Goals.{After-position}
use Rattle.job.proofs.starts_verdict.Goals as goal

found : (c : After-position) → c.position.result ≡ position (nat_lt start_most) c.args.starts.now
found c =
    position_from_yields_List (nat_lt start_most) _ _ _ c.position.ensures.ran (YieldsList-from_slice c.args.starts.now (grind (arith, common_steps))) (λ x b q k. search (rules, tests))

pub returns-in-Some : goal.returns-in-Some
returns-in-Some c = ap (refused 12) (omega arith) ∙ ap late_at (sym c.in-Some.is ∙ found (goal.at.returns-in-Some c).After-position) ∙ sym (first_late c.args.starts.now)

pub returns-in-None : goal.returns-in-None
returns-in-None c = ap late_at (sym c.in-None.is ∙ found (goal.at.returns-in-None c).After-position) ∙ sym (first_late c.args.starts.now)
