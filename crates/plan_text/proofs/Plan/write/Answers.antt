-- The room by whether the text fits, then the text.
use Rattle.plan_text.proofs.WritingPlans.{write_short, write_filled}
use Rattle.plan_text.proofs.Plan.write.Goals as goal

pub returns-then-not-fits_in : goal.returns-then-not-fits_in
returns-then-not-fits_in c = write_short _ _ c.requires _ c.fits_in.ensures c.if-not-fits_in.true

pub returns : goal.returns
returns c = write_filled _ _ c.requires _ c.fits_in.ensures c.if-not-fits_in.false c.text.ensures.put
