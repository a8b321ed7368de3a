-- The starts that are ruled out are marked, and the first without a mark is taken.
use Rattle.std.proofs.Common.{rules}
use lib.Seq.{take-length}
use Rattle.planner.proofs.StartsFound.{first_free-found}
use Rattle.planner.proofs.entries.Entries.search.Goals as goal

pub returns : goal.returns
returns c =
    λ bs entries within. first_free-found _ _ _ _ bs entries _ _ _ c.clear.ensures c.rule_out.ensures (search (rules, take-length)) _ c.first_unmarked.ensures c.requires.1 within
