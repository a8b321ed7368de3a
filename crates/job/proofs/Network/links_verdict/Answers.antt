-- Each turn judges the first link that is left.
use Rattle.std.proofs.Common.{◌≡◌, length, Err, sym, ◌∙◌, rules}
use Rattle.std.proofs.lemmas.List.{length_push}
use Rattle.job.proofs.Pairs.{AtPair, pair_turn, pair_end}
use Rattle.job.proofs.VerdictLoops.{links_refused, links_on, links_done}
use Rattle.job.proofs.Network.links_verdict.Goals.{In-Some}
use Rattle.job.proofs.Network.links_verdict.Goals as goal

here : (c : In-Some)
    → let net = c.args.self.now in
    AtPair net.origins.now net.ends.now (length c.loop-l.yielded) (c.in-Some.l, (c.in-Some.field-0-1-0.now, c.in-Some.field-0-1-1.now))
here c = pair_turn _ _ c.into_iter-l-iterator.result (cc) (cc) (cc) c.loop-l.yielded c.loop-l.l-iterator c.next.new.self c.loop-l.yielded_by c.in-Some.is c.next.ensures.steps

pub returns-in_err-link_verdict : goal.returns-in_err-link_verdict
returns-in_err-link_verdict c =
    let e : c.from_residual.result ≡ Err c.in_err-link_verdict.field-0.0 = search rules in
    rw e (sym (c.loop-l.invariant ∙ links_refused _ _ _ _ (here (goal.at.returns-in_err-link_verdict c).In-Some) c.in_err-link_verdict.ensures))

pub loop-l-preserved : goal.loop-l-preserved
loop-l-preserved c =
    rw (length_push c.loop-l.yielded (c.in-Some.l, (c.in-Some.field-0-1-0, c.in-Some.field-0-1-1)))
    (c.loop-l.invariant ∙ links_on _ _ _ _ (here (goal.at.loop-l-preserved c).In-Some) c.in_ok-link_verdict.ensures)

pub returns : goal.returns
returns c =
    let net = c.args.self.now in
    let all = pair_end _ _ c.into_iter-l-iterator.result (cc) (cc) (cc) c.loop-l.yielded c.loop-l.l-iterator c.next.new.self c.loop-l.yielded_by c.in-None.is c.next.ensures.steps in
    sym (c.loop-l.invariant ∙ links_done _ _ _ _ all)
