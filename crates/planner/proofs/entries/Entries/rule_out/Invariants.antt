-- What is marked so far and what is left of the path together rule out what the whole path does.
use Rattle.std.proofs.Common.{◌≤◌}
use Rattle.planner.proofs.RulingOut.{MarkedSoFar}
use Rattle.planner.proofs.entries.Entries.rule_out.Given as goal

abbrev pub invariant-loop-link : goal.invariant-loop-link
invariant-loop-link l =
    (l.offset ≤ l.link-index) × MarkedSoFar l.path l.self.firsts l.self.nexts l.self.steps l.initial.words l.words l.link-index l.offset
