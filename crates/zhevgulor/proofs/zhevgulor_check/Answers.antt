-- The check's answer, told in two numbers.
use Rattle.zhevgulor.proofs.Promises.{check_promised}
use Rattle.zhevgulor.proofs.ToldToC.{text_told}
use Rattle.zhevgulor.proofs.zhevgulor_check.Goals as goal

pub returns : goal.returns
returns c = rw c.job_lists-lists.ensures at (check_promised _ _ _ (text_told _ c.checked.ensures c.answer_of.ensures))
