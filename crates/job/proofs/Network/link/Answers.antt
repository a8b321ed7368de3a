-- It is looked up in both lists.
use Rattle.std.proofs.Common.{◌≡◌, ℕ, ◌<◌, List, length, get_or, arith}
use Rattle.std.proofs.Math.ListN.{get_elem?}
use Rattle.std.proofs.Math.Option.{some}
use Rattle.counting.proofs.Places.{at-get_or, at_none}
use Rattle.rules.specs.Network.{link_at}
use Rattle.job.proofs.Network.link.Goals as goal

-- what was found at a place is what stands at that number, if they are the same
found : (xs : List ℕ) (n : ℕ) {i x : ℕ} → i ≡ n → i < length xs → x ≡ get_or xs i x → get_elem? xs n ≡ some x
found xs n {i} {x} e h q = rw (← e, at-get_or xs i x h, ← q)

pub returns-in_err-get : goal.returns-in_err-get
unfolding link_at
returns-in_err-get c =
    let n = c.args.self.now in
    rw (c.from_residual.ensures, at_none n.origins.now c.args.number (omega (arith, c.from-number.ensures, c.in_err-get.ensures.lookup)))

pub returns-in_err-get-2 : goal.returns-in_err-get-2
unfolding link_at
returns-in_err-get-2 c =
    let n = c.args.self.now in
    let from = at-get_or n.origins.now c.args.number 0 (omega (arith, c.from-number.ensures, c.in_ok-get.ensures.lookup)) in
    rw (c.from_residual-in_err-get-2.ensures, from, at_none n.ends.now c.args.number (omega (arith, c.from-number.ensures, c.in_err-get-2.ensures.lookup)))

pub returns : goal.returns
unfolding link_at
returns c =
    let n = c.args.self.now in
    let from = found n.origins.now c.args.number (omega (arith, c.from-number.ensures, c.ranges.number.fits)) (omega (arith, c.in_ok-get.ensures.lookup)) c.in_ok-get.ensures.lookup.1 in
    let to = found n.ends.now c.args.number (omega (arith, c.from-number.ensures, c.ranges.number.fits)) (omega (arith, c.in_ok-get-2.ensures.lookup)) c.in_ok-get-2.ensures.lookup.1 in
    rw (from, to)
