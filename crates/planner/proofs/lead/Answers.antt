-- The refusals in their order, then the difference of the two entry steps.
use Rattle.std.proofs.Common.{◌≡◌, Err, ◌∙◌, rules}
use Rattle.planner.proofs.CheckAndLead.{led_refused, led_itself, led_apart}
use Rattle.planner.proofs.lead.Goals as goal

pub returns-in_err-packets : goal.returns-in_err-packets
returns-in_err-packets c =
    let e : c.from_residual.result ≡ Err c.in_err-packets.field-0.0 = search rules in
    rw e (led_refused _ _ _ c.in_err-packets.ensures.verdict _ _ _)

pub returns-then-a-b : goal.returns-then-a-b
returns-then-a-b c = led_itself _ _ c.in_ok-packets.ensures.verdict _ _ _ c.if-a-b.true

pub returns : goal.returns
returns c =
    let told = c.in_ok-packets.ensures in
    c.difference.ensures
    ∙ led_apart _ _ told.verdict _ _ _ c.if-a-b.false
    (rw (told.packets.0, told.packets.1, told.packets.2) at c.entry-first.ensures.result_value)
    (rw (told.packets.0, told.packets.1, told.packets.2) at c.entry-second.ensures.result_value)
