-- What is left of the lines, with the job so far, is what was to be read.
use Rattle.std.proofs.Common.{◌-◌, length, drop}
use Rattle.rules.specs.Bytes.{line_feed, split}
use Rattle.theorems.specs.TextRest.{with_rest}
use Rattle.job_text.specs.Told.{lists_in, SameLists}
use Rattle.job_text.specs.SoFar.{so_far}
use Rattle.job_text.proofs.LineByLine.{Going}
use Rattle.job_text.proofs.add_lines.Given as goal

abbrev pub invariant-loop-cursor : goal.invariant-loop-cursor
invariant-loop-cursor l =
    let i = l.initial in
    Going l.text (with_rest i.cursor.line (so_far i.begun.job (lists_in i.lists)) (split line_feed (drop i.cursor.at l.text))) (lists_in l.lists) l.cursor l.begun.job
    × SameLists i.lists l.lists

abbrev pub decreases-loop-cursor : goal.decreases-loop-cursor
decreases-loop-cursor l = length l.text - l.cursor.at
