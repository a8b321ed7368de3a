-- A line is its letter and what stands behind it.
use Rattle.std.proofs.Common.{◌≡◌, sym, None, rules, arith}
use Rattle.job_text.proofs.OneLine.{told_by_letter, said_no_letter, said_other_letter}
use Rattle.job_text.proofs.line_at.Goals as goal

pub returns-in_err-letter_at-clause-told : goal.returns-in_err-letter_at-clause-told
returns-in_err-letter_at-clause-told c =
    let e : c.from_residual.result ≡ None = search rules in
    rw e (said_no_letter _ _ (sym c.in_err-letter_at.ensures))

pub returns-in-80-clause-told : goal.returns-in-80-clause-told
returns-in-80-clause-told c = told_by_letter _ _ c.in_ok-letter_at.ensures c.in-80.is (omega arith) _ _ _ c.packet_at.ensures.told

pub returns-in-76-clause-told : goal.returns-in-76-clause-told
returns-in-76-clause-told c = told_by_letter _ _ c.in_ok-letter_at.ensures c.in-76.is (omega arith) _ _ _ (c.link_at.ensures _ _)

pub returns-in-78-clause-told : goal.returns-in-78-clause-told
returns-in-78-clause-told c = told_by_letter _ _ c.in_ok-letter_at.ensures c.in-78.is (omega arith) _ _ _ (c.nodes_at.ensures _ _)

pub returns-in_default-clause-told : goal.returns-in_default-clause-told
returns-in_default-clause-told c = said_other_letter _ _ c.in_ok-letter_at.ensures (λ e. omega arith) (λ e. omega arith) (λ e. omega arith)
