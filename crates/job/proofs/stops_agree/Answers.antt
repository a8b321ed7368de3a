-- Stops that are sorted agree with the last one.
use Rattle.std.proofs.Common.{◌≡◌, ◌-◌, nat_le, length, slice_get, unwrap_or, rules, tests}
use Rattle.std.proofs.lemmas.List.Sorted.{answers_always}
use Rattle.std.specs.List.{IsAllAdjacentAnswer}
use Rattle.job.proofs.VerdictLoops.{sorted_stops}
use Rattle.job.proofs.stops_agree.Goals.{After-is_sorted_by}
use Rattle.job.proofs.stops_agree.Goals as goal

sorted : (c : After-is_sorted_by) → IsAllAdjacentAnswer (λ x y b. b ≡ nat_le x y) c.args.stops.now c.is_sorted_by.result
sorted c = c.is_sorted_by.ensures.cases nat_le (answers_always _ _ _ (λ f a r g h. search (rules, tests)))

pub returns-then-is_sorted_by : goal.returns-then-is_sorted_by
returns-then-is_sorted_by c =
    let last : c.from.result ≡ unwrap_or (slice_get c.args.stops.now (length c.args.stops.now - 1)) 0 = rw (c.from.ensures, c.unwrap_or-last.ensures, c.copied.ensures, c.last.ensures.value) in
    rw (last, sorted_stops c.args.stops.now c.args.hops _ (sorted (goal.at.returns-then-is_sorted_by c).After-is_sorted_by), c.if-is_sorted_by.true) (search (rules, tests))

pub returns-else-is_sorted_by : goal.returns-else-is_sorted_by
returns-else-is_sorted_by c = rw (sorted_stops c.args.stops.now c.args.hops _ (sorted (goal.at.returns-else-is_sorted_by c).After-is_sorted_by), c.if-is_sorted_by.false)
