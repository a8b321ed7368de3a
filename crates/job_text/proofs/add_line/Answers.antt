-- A line adds what it says; a node count is bad form.
use Rattle.rules.specs.JobText.{with_line}
use Rattle.job_text.proofs.OneLine.{told_line}
use Rattle.job_text.proofs.Adding.{took_refusal}
use Rattle.job_text.proofs.add_line.Goals as goal

pub returns-in-Nodes-clause-took : goal.returns-in-Nodes-clause-took
unfolding with_line
returns-in-Nodes-clause-took c = λ said a. took_refusal (rw (told_line a c.in-Nodes.is))
