-- The verdict is that of the walk that is left, and the nodes that are marked are those that the walk has visited.
use Rattle.std.proofs.Common.{◌≡◌, [], ◌∷◌, length}
use Rattle.rules.specs.Tables.{walk}
use Rattle.job.specs.Lists.{network_in}
use Rattle.job.proofs.VerdictLoops.{walk_left}
use Rattle.job.proofs.VisitedMarks.{VisitedBefore}
use Rattle.job.proofs.Network.walk.Given as goal

abbrev pub invariant-loop-p : goal.invariant-loop-p
invariant-loop-p l =
    let net = network_in l.self in
    (length l.words ≡ 16)
    × VisitedBefore net.ends l.path l.source l.p l.words
    × (walk net l.place l.source (l.source ∷ []) l.path ≡ walk_left net l.path l.source l.place l.reached l.p)
