-- The one hop to look at, if the path has it.
use Rattle.std.proofs.Common.{arith}
use Rattle.planner.proofs.Entering.{before-start, past_path, on_path}
use Rattle.planner.proofs.enters.Goals as goal

pub returns-then-step-begun : goal.returns-then-step-begun
returns-then-step-begun c = before-start _ _ _ _ (omega arith)

pub returns-then-hop-path : goal.returns-then-hop-path
returns-then-hop-path c = rw c.from-begun.ensures (on_path _ _ _ _ (omega arith) (omega arith))

pub returns-else-hop-path : goal.returns-else-hop-path
returns-else-hop-path c = rw c.from-begun.ensures (past_path _ _ _ _ (omega arith) (omega arith))
