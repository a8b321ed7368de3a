-- The four parts stand one behind the other in what the writer holds.
use Rattle.std.proofs.lemmas.Result.{on_ok_weaker}
use Rattle.input.proofs.Parts.{four_parts}
use Rattle.check_plan.proofs.tell_usage.Goals as goal

pub returns : goal.returns
returns g c =
    on_ok_weaker _
    (four_parts _ _ _ _ _ _ _ _ _ c.in_ok-write_all.ensures.bytes c.in_ok-write_all-2.ensures.bytes c.in_ok-write_all-3.ensures.bytes)
    c.write_all-4.ensures.bytes
