-- The tables say how many packets there are at most.
use Rattle.std.proofs.Common.{sym, arith}
use Rattle.theorems.proofs.Accepted.{tables-fine-iff}
use Rattle.job.proofs.JobLists.started.Goals as goal

pub starts_verdict-requires : goal.starts_verdict-requires
starts_verdict-requires c = omega (arith, ((tables-fine-iff _).0 (sym c.in_ok-tables.ensures)).few_packets)
