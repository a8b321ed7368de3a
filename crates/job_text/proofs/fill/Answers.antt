-- What is read stays in the first places, and nothing of a text that is refused.
use Rattle.theorems.proofs.TextRefusals.{text_lines_refused}
use Rattle.job_text.proofs.Clearing.{cleared}
use Rattle.job_text.proofs.LineByLine.{room_kept}
use Rattle.job_text.proofs.fill.Goals as goal

pub returns-clause-read : goal.returns-clause-read
returns-clause-read c =
    let r = c.read_lines-answer.ensures in
    cleared _ (text_lines_refused c.args.text.now) r.took (room_kept r.same.long c.requires.room) r.same.long (rw c.unwrap_or.ensures at c.clear_past.ensures.cleared)
