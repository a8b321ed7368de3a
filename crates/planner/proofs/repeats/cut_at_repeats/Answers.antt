-- Each turn cuts one link's part, or leaves it whole where none of its entries repeats another.
use Rattle.std.proofs.Common.{◌<◌, length, sym, ◌∙◌, arith}
use Rattle.planner.proofs.PartsCut.{cut_to_repeat, cut_to_end, cut_to_done}
use Rattle.planner.proofs.repeats.cut_at_repeats.Goals.{in-Some, in_default}
use Rattle.planner.proofs.repeats.cut_at_repeats.Goals as goal

pub loop-link-preserved : goal.loop-link-preserved
loop-link-preserved c =
    let (so_far, clear, whole) = c.loop-link.invariant in
    let more : c.loop-link.link < length c.loop-link.nexts = omega (arith, c.requires.few, c.requires.lengths, so_far.long) in
    let first = c.cut.ensures.first_repeat in
    elim c.match-cut.branch [
      | in-Some w ↦ (rw w.nexts-is (cut_to_repeat so_far more _ (rw w.in-Some.is at first)), c.cut.ensures.clear ∙ clear, λ e. cc)
      | in_default w ↦ (
        rw w.nexts-is (cut_to_end so_far more c.requires.parts (rw w.in_default.is at first)),
        c.cut.ensures.clear ∙ clear,
        λ e. rw w.nexts-is (whole (sym w.shorter-is ∙ e)),
      )
    ]

pub returns-clause-cut : goal.returns-clause-cut
returns-clause-cut c = cut_to_done c.loop-link.invariant.0 c.requires c.loop-link-test.false
