-- No plan is longer than the greatest.
use Rattle.plan_text.proofs.WritingPlans.{ample_room}
use Rattle.plan_text.proofs.Plan.fits_in.Goals as goal

pub returns-then-bytes-ge-PLAN : goal.returns-then-bytes-ge-PLAN
returns-then-bytes-ge-PLAN c = ample_room _ _ c.requires.1 c.if-bytes-ge-PLAN.true
