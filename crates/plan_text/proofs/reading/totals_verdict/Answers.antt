-- Routing time, then C, then D.
use Rattle.std.proofs.Common.{◌∙◌, sym}
use Rattle.plan_text.proofs.Following.{time_off, congestion_off, dilation_off, totals_follow}
use Rattle.plan_text.proofs.reading.totals_verdict.Goals as goal

pub returns-then-from-routing_time : goal.returns-then-from-routing_time
returns-then-from-routing_time c = time_off _ _ _ _ c.routing_time.ensures (λ e. c.if-from-routing_time.true (c.from.ensures ∙ e))

pub returns-then-from-congestion : goal.returns-then-from-congestion
returns-then-from-congestion c =
    congestion_off _ _ _ _ c.routing_time.ensures (sym c.from.ensures ∙ c.if-from-routing_time.false) c.congestion.ensures
    (λ e. c.if-from-congestion.true (c.from-2.ensures ∙ e))

pub returns-then-from-dilation : goal.returns-then-from-dilation
returns-then-from-dilation c =
    dilation_off _ _ _ _ c.routing_time.ensures (sym c.from.ensures ∙ c.if-from-routing_time.false) c.congestion.ensures
    (sym c.from-2.ensures ∙ c.if-from-congestion.false) c.dilation.ensures (λ e. c.if-from-dilation.true (c.from-3.ensures ∙ e))

pub returns : goal.returns
returns c =
    totals_follow _ _ _ _ c.routing_time.ensures (sym c.from.ensures ∙ c.if-from-routing_time.false) c.congestion.ensures
    (sym c.from-2.ensures ∙ c.if-from-congestion.false) c.dilation.ensures (sym c.from-3.ensures ∙ c.if-from-dilation.false)
