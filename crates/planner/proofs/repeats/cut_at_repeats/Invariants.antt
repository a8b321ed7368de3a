-- The links before this one are cut, the others stand as they were, and no mark is left for the next.
use Rattle.std.proofs.Common.{false, ◌≡◌}
use Rattle.planner.specs.Cuts.{SameParts}
use Rattle.planner.proofs.PartsCut.{CutTo}
use Rattle.planner.proofs.repeats.cut_at_repeats.Given as goal

abbrev pub invariant-loop-link : goal.invariant-loop-link
invariant-loop-link l =
    CutTo l.firsts l.initial.nexts l.steps l.nexts l.link × (l.words ≡ l.initial.words) × (l.shorter ≡ false → SameParts l.initial.nexts l.nexts)
