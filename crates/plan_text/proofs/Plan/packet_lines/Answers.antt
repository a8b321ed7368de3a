-- A line takes one packet from what is left to write, and past the last packet nothing is left.
use Rattle.std.proofs.Common.{arith}
use Rattle.plan_text.proofs.PacketLoops.{lines_turn, lines_done}
use Rattle.plan_text.proofs.Stops.{paths_count, few_starts}
use Rattle.plan_text.proofs.Plan.packet_lines.Goals as goal

pub overflow_cast-at : goal.overflow_cast-at
overflow_cast-at c = omega (arith, c.loop-k.invariant.low, few_starts _ _ c.args.self.now.count c.args.self.now.job)

pub overflow_cast-numbers : goal.overflow_cast-numbers
overflow_cast-numbers c = omega (arith, few_starts _ _ c.args.self.now.count c.args.self.now.job)

pub loop-k-preserved : goal.loop-k-preserved
loop-k-preserved c =
    let line = c.line-at in
    lines_turn c.loop-k.invariant (paths_count _ _ c.args.self.now.count) c.loop-k-test.true c.end.ensures (rw c.from.ensures at line.ensures.put)
    line.ensures.near line.auto.room

pub returns-clause-put : goal.returns-clause-put
returns-clause-put c = lines_done c.loop-k.invariant (paths_count _ _ c.args.self.now.count) c.loop-k-test.false

pub returns-clause-near : goal.returns-clause-near
returns-clause-near c = omega (arith, c.loop-k.invariant.low, few_starts _ _ c.args.self.now.count c.args.self.now.job)
