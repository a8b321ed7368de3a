-- Six bytes, in a room that has them.
use Rattle.std.proofs.Common.{refl}
use Rattle.rules.specs.Answers.{lent_after}
use Rattle.checking.proofs.tell_clear.Goals as goal

pub returns : goal.returns
unfolding lent_after
returns c = rw c.copy_from_slice.ensures.after (record { bytes = refl; room = refl })
