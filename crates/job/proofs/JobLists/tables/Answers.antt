-- What the two tests say of the lists.
use Rattle.std.proofs.Common.{sym, ◌∙◌}
use Rattle.job.specs.Lists.{job_in}
use Rattle.job.proofs.VerdictLoops.{agree_within, job_within}
use Rattle.job.proofs.JobLists.tables.Goals as goal

pub links_verdict-requires : goal.links_verdict-requires
links_verdict-requires c = (job_within (job_in c.args.self.now) (sym c.sizes_fit.ensures ∙ c.if-not-sizes_fit.false)).0

pub packets_verdict-requires : goal.packets_verdict-requires
packets_verdict-requires c =
    let j = job_in c.args.self.now in
    let lists = agree_within j (sym c.lists_agree.ensures ∙ c.if-not-lists_agree.false) in
    (sym lists.0, (job_within j (sym c.sizes_fit.ensures ∙ c.if-not-sizes_fit.false)).1, lists.1)
