-- Each exit is a law of a P line, and only places behind the hops so far are written.
use Rattle.std.proofs.Common.{◌≡◌, sym, None, rules}
use Rattle.lines.proofs.BehindPlaces.{said_ok}
use Rattle.lines.proofs.LetterAndFeed.{unsaid_ok}
use Rattle.job_text.proofs.OneLine.{no_first, no_path, packet_cut, packet_found}
use Rattle.job_text.proofs.packet_at.Goals as goal

pub returns-in_err-source-clause-told : goal.returns-in_err-source-clause-told
returns-in_err-source-clause-told c =
    let e : c.from_residual.result ≡ None = search rules in
    rw e (no_first _ _ _ (unsaid_ok _ _ c.field_behind.ensures c.in_err-source.ensures.value))

pub returns-in_err-count-clause-told : goal.returns-in_err-count-clause-told
returns-in_err-count-clause-told c =
    let e : c.from_residual-in_err-count.result ≡ None = search rules in
    rw e (no_path (said_ok _ _ c.field_behind.ensures c.in_ok-source.ensures.value) (sym c.in_err-count.ensures.0))

pub returns-then-end-text-clause-told : goal.returns-then-end-text-clause-told
returns-then-end-text-clause-told c =
    packet_cut (said_ok _ _ c.field_behind.ensures c.in_ok-source.ensures.value) (sym c.in_ok-count.ensures.0) c.if-end-text.true

pub returns-clause-told : goal.returns-clause-told
returns-clause-told c =
    packet_found (said_ok _ _ c.field_behind.ensures c.in_ok-source.ensures.value) (sym c.in_ok-count.ensures.0) c.if-end-text.false _ c.copy_behind.ensures.1
