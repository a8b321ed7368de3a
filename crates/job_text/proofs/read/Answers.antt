-- 1, then 10, then the lines from the top.
use Rattle.std.proofs.Common.{sym}
use Rattle.job_text.proofs.ReaderAnswers.{too_long, too_short, taken_up, text_too_long, short_room}
use Rattle.job_text.proofs.read.Goals as goal

pub returns-then-text-gt-TEXT-clause-read : goal.returns-then-text-gt-TEXT-clause-read
returns-then-text-gt-TEXT-clause-read c = rw (too_long _ _ c.if-text-gt-TEXT.true) (text_too_long _)

pub returns-then-not-has_room-clause-read : goal.returns-then-not-has_room-clause-read
returns-then-not-has_room-clause-read c = rw (too_short _ _ c.if-text-gt-TEXT.false (sym c.if-not-has_room.ensures)) (short_room _)

pub returns-clause-read : goal.returns-clause-read
returns-clause-read c = rw (taken_up _ _ c.if-text-gt-TEXT.false (sym c.if-not-has_room.ensures)) c.fill.ensures.read
