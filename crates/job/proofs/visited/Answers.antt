-- After the source, the node is sought among those that the links enter.
use Rattle.std.proofs.Common.{slice_get, ◌∙◌, arith, rules, tests}
use Rattle.std.proofs.lemmas.Grind.{common_steps}
use Rattle.std.proofs.lemmas.Iterator.{YieldsList-from_slice}
use Rattle.std.proofs.lemmas.Iterator.Search.{any_from_yields_List}
use borrow.Author.Tests.{ne_eqb}
use Rattle.job.specs.Lists.{is_node}
use Rattle.job.proofs.VerdictLoops.{any_enters}
use Rattle.job.proofs.visited.Goals as goal

pub returns-else-source-node : goal.returns-else-source-node
returns-else-source-node c =
    let a = c.args in
    rw (ne_eqb a.source a.node c.if-source-node.false)
    (any_from_yields_List (λ l. is_node (slice_get a.ends.now l) a.node) _ _ _ c.any.ensures.ran (YieldsList-from_slice a.links.now (grind (arith, common_steps))) (λ x b q k. search (rules, tests))
    ∙ any_enters a.ends.now a.node a.links.now)
