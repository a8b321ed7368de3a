-- The packets' lines, then the line of the counts.
use Rattle.plan_text.proofs.WritingPlans.{text_put}
use Rattle.plan_text.proofs.Plan.text.Goals as goal

pub returns-clause-put : goal.returns-clause-put
returns-clause-put c = text_put c.requires c.packet_lines-at.ensures.put c.line.ensures.put
