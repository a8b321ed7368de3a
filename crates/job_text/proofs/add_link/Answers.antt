-- Each exit is a law of a link that is added to the job so far.
use Rattle.std.proofs.Common.{◌≡◌, Err, rules, arith}
use Rattle.job_text.proofs.Adding.{link_below_packet, link_over, link_refused, link_added}
use Rattle.job_text.proofs.add_link.Goals as goal

pub returns-then-packets-gt0-clause-took : goal.returns-then-packets-gt0-clause-took
returns-then-packets-gt0-clause-took c = link_below_packet _ _ _ c.requires.room c.args.begun.within _ _ (λ e. omega (arith, e))

pub returns-then-links-ge-LINKS-clause-took : goal.returns-then-links-ge-LINKS-clause-took
returns-then-links-ge-LINKS-clause-took c = link_over _ _ _ c.requires.room c.args.begun.within _ _ (omega arith) (omega arith)

pub returns-in_err-link_verdict-clause-took : goal.returns-in_err-link_verdict-clause-took
returns-in_err-link_verdict-clause-took c =
    let e : c.from_residual.result ≡ Err c.in_err-link_verdict.field-0.0 = search rules in
    rw e (link_refused _ _ _ c.requires.room c.args.begun.within _ _ (omega arith) (omega arith) c.in_err-link_verdict.ensures)

pub returns-clause-took : goal.returns-clause-took
returns-clause-took c =
    link_added _ _ _ c.requires.room c.args.begun.within _ _ (omega arith) (omega arith) c.in_ok-link_verdict.ensures c.from-links.ensures
