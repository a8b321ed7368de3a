-- What is entered so far and what is left of the path together are what the whole path enters.
use Rattle.std.proofs.Common.{◌≡◌, ◌≤◌}
use Rattle.planner.proofs.EnteringLinks.{EnteredToHop}
use Rattle.planner.proofs.entries.Entries.enter.Given as goal

abbrev pub invariant-loop-link : goal.invariant-loop-link
invariant-loop-link l =
    (l.offset ≤ l.link-index) × (l.self.firsts ≡ l.initial.self.firsts) × EnteredToHop l.path l.initial.self.nexts l.initial.self.steps l.self.nexts l.self.steps l.start l.link-index l.offset
