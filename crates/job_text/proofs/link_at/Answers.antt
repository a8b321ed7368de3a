-- Each exit is a law of an L line.
use Rattle.std.proofs.Common.{◌≡◌, sym, None, rules}
use Rattle.lines.proofs.BehindPlaces.{said_ok}
use Rattle.lines.proofs.LetterAndFeed.{unsaid_ok}
use Rattle.job_text.proofs.OneLine.{no_first, no_second, link_unfed, link_found}
use Rattle.job_text.proofs.link_at.Goals as goal

pub returns-in_err-from : goal.returns-in_err-from
returns-in_err-from c = λ hops place.
    let e : c.from_residual.result ≡ None = search rules in
    rw e (no_first _ _ _ (unsaid_ok _ _ c.field_behind.ensures c.in_err-from.ensures.value))

pub returns-in_err-to : goal.returns-in_err-to
returns-in_err-to c = λ hops place.
    let e : c.from_residual-in_err-to.result ≡ None = search rules in
    rw e (no_second (said_ok _ _ c.field_behind.ensures c.in_ok-from.ensures.value) (unsaid_ok _ _ c.field_behind-2.ensures c.in_err-to.ensures.value))

pub returns-then-not-begins_at : goal.returns-then-not-begins_at
returns-then-not-begins_at c = λ hops place.
    link_unfed (said_ok _ _ c.field_behind.ensures c.in_ok-from.ensures.value) (said_ok _ _ c.field_behind-2.ensures c.in_ok-to.ensures.value)
    (sym c.if-not-begins_at.ensures)

pub returns : goal.returns
returns c = λ hops place.
    link_found (said_ok _ _ c.field_behind.ensures c.in_ok-from.ensures.value) (said_ok _ _ c.field_behind-2.ensures c.in_ok-to.ensures.value)
    (sym c.if-not-begins_at.ensures)
