-- What the two texts come to, and which of them is refused.
use Rattle.zhevgulor.proofs.PlanBackPromises.{check_texts_promised}
use Rattle.zhevgulor.proofs.ToldToC.{text_told, refusal_lent, texts_for}
use Rattle.zhevgulor.proofs.zhevgulor_check_texts.Goals as goal

pub returns-in-Ok : goal.returns-in-Ok
returns-in-Ok c =
    check_texts_promised _ _ _ (texts_for _ c.in-Ok.ensures c.about.ensures (text_told _ c.shown.ensures c.answer_of.ensures))

pub returns-in-Err-Job : goal.returns-in-Err-Job
returns-in-Err-Job c =
    check_texts_promised _ _ _
    (texts_for _ (rw c.in-Err-Job.field-0-is at c.in-Err-Job.ensures) c.about-in-Err-Job.ensures (refusal_lent c.answer_of-in-Err-Job.ensures))

pub returns-in-Err-Plan : goal.returns-in-Err-Plan
returns-in-Err-Plan c =
    check_texts_promised _ _ _
    (texts_for _ (rw c.in-Err-Plan.field-0-is at c.in-Err-Plan.ensures) c.about-in-Err-Plan.ensures (refusal_lent c.answer_of-in-Err-Plan.ensures))
