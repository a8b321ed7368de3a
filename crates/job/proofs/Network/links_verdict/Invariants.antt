-- The verdict is that of the links that are left.
use Rattle.std.proofs.Common.{◌≡◌, length}
use Rattle.rules.specs.Tables.{links_verdict}
use Rattle.job.proofs.VerdictLoops.{links_left}
use Rattle.job.proofs.Network.links_verdict.Given as goal

abbrev pub invariant-loop-l : goal.invariant-loop-l
invariant-loop-l l =
    let net = l.self in
    links_verdict net.nodes 0 net.origins.now net.ends.now ≡ links_left net.nodes net.origins.now net.ends.now (length l.yielded)
