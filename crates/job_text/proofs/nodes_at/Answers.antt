-- Each exit is a law of an N line.
use Rattle.std.proofs.Common.{◌≡◌, sym, None, rules}
use Rattle.lines.proofs.BehindPlaces.{said_ok}
use Rattle.lines.proofs.LetterAndFeed.{unsaid_ok}
use Rattle.job_text.proofs.OneLine.{no_first, nodes_unfed, nodes_found}
use Rattle.job_text.proofs.nodes_at.Goals as goal

pub returns-in_err-nodes : goal.returns-in_err-nodes
returns-in_err-nodes c = λ hops from.
    let e : c.from_residual.result ≡ None = search rules in
    rw e (no_first _ _ _ (unsaid_ok _ _ c.field_behind.ensures c.in_err-nodes.ensures.value))

pub returns-then-not-begins_at : goal.returns-then-not-begins_at
returns-then-not-begins_at c = λ hops from.
    nodes_unfed (said_ok _ _ c.field_behind.ensures c.in_ok-nodes.ensures.value) (sym c.if-not-begins_at.ensures)

pub returns : goal.returns
returns c = λ hops from. nodes_found (said_ok _ _ c.field_behind.ensures c.in_ok-nodes.ensures.value) (sym c.if-not-begins_at.ensures)
