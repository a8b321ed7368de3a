-- Each way out of a turn is a law of the rules' walk.
use Rattle.std.proofs.Common.{refl, sym, ◌∙◌, arith, rules}
use Rattle.job.proofs.VerdictLoops.{link_end, walk_begins, walk_no_link, walk_not_leaving, walk_revisited, walk_on, walk_done}
use Rattle.job.proofs.VisitedMarks.{visited_start, visited_turn}
use Rattle.job.proofs.Network.walk.Goals as goal

pub loop-p-init : goal.loop-p-init
loop-p-init c = (search rules, visited_start 16 _ _ (omega arith) c.visit.ensures, walk_begins _ _ _ _)

pub returns-in_default : goal.returns-in_default
returns-in_default c = sym (c.loop-p.invariant.2 ∙ walk_no_link _ _ _ _ _ _ refl c.loop-p-test.true (sym c.in_default.ensures))

pub returns-then-from-reached : goal.returns-then-from-reached
returns-then-from-reached c =
    sym (c.loop-p.invariant.2 ∙ walk_not_leaving _ _ _ _ _ _ refl c.loop-p-test.true c.in-Some.ensures c.if-from-reached.true)

pub returns-then-seen : goal.returns-then-seen
returns-then-seen c =
    sym (c.loop-p.invariant.2
    ∙ walk_revisited _ _ _ _ _ _ refl c.loop-p-test.true c.in-Some.ensures c.if-from-reached.false c.seen.ensures c.if-seen.true)

pub loop-p-preserved : goal.loop-p-preserved
loop-p-preserved c = (
  search rules,
  visited_turn _ _ _ _ _ refl c.loop-p-test.true (link_end _ _ (sym c.in-Some.ensures)) c.loop-p.invariant.1 c.visit-in-loop-p.ensures,
  c.loop-p.invariant.2
      ∙ walk_on _ _ _ _ _ _ refl c.loop-p-test.true c.in-Some.ensures c.if-from-reached.false c.seen.ensures c.if-seen.false,
)

pub returns : goal.returns
returns c = sym (c.loop-p.invariant.2 ∙ walk_done _ _ _ _ _ _ (omega arith))
