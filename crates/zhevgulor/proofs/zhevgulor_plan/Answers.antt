-- The answer from bytes, told in two numbers.
use Rattle.std.proofs.Common.{rules}
use Rattle.zhevgulor.proofs.Promises.{plan_promised}
use Rattle.zhevgulor.proofs.ToldToC.{text_told}
use Rattle.zhevgulor.proofs.zhevgulor_plan.Goals as goal

pub returns : goal.returns
returns c = plan_promised _ _ (text_told _ c.answer.ensures (search rules))
