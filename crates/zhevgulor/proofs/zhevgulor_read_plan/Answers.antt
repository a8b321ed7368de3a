-- The plan reader's answer, told in two numbers.
use Rattle.zhevgulor.proofs.PlanBackPromises.{read_plan_promised}
use Rattle.zhevgulor.proofs.ToldToC.{text_told}
use Rattle.zhevgulor.proofs.zhevgulor_read_plan.Goals as goal

pub returns : goal.returns
returns c = rw c.job_lists-lists.ensures at (read_plan_promised _ _ _ (text_told _ c.starts_said.ensures c.answer_of.ensures))
