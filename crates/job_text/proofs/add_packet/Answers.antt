-- Each exit is a law of a packet that is added to the job so far.
use Rattle.std.proofs.Common.{◌≡◌, Err, rules, arith}
use Rattle.job_text.proofs.Adding.{packets_over, hops_over, packet_refused, packet_added}
use Rattle.job_text.proofs.add_packet.Goals as goal

pub returns-then-packets-ge-PACKETS-clause-took : goal.returns-then-packets-ge-PACKETS-clause-took
returns-then-packets-ge-PACKETS-clause-took c = λ path p. packets_over _ _ _ c.requires.room c.args.begun.within _ _ (omega arith)

pub returns-then-count-from-clause-took : goal.returns-then-count-from-clause-took
returns-then-count-from-clause-took c = λ path p. hops_over _ _ _ c.requires.room c.args.begun.within _ _ (omega arith) (omega (arith, p.many))

pub returns-in_err-packet_verdict-clause-took : goal.returns-in_err-packet_verdict-clause-took
returns-in_err-packet_verdict-clause-took c = λ path p. (
    let e : c.from_residual.result ≡ Err c.in_err-packet_verdict.field-0.0 = search rules in
    rw e (packet_refused _ _ _ c.requires.room c.args.begun.within _ _ (omega arith) (omega (arith, p.many)) p c.in_err-packet_verdict.ensures))

pub returns-clause-took : goal.returns-clause-took
returns-clause-took c = λ path p.
    packet_added _ _ _ c.requires.room c.args.begun.within _ _ (omega arith) (omega (arith, p.many)) p c.in_ok-packet_verdict.ensures
    c.from-packets.ensures c.from-from.ensures (omega arith)
