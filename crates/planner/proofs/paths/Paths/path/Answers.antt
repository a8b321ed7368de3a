-- The part is from where the path before stops to its own stop.
use Rattle.std.proofs.Common.{sym, arith}
use Rattle.planner.specs.PacketsInLists.{path_at}
use Rattle.planner.proofs.PathParts.{Part, part}
use Rattle.planner.proofs.paths.Paths.path.Goals.{After-from-to}
use Rattle.planner.proofs.paths.Paths.path.Goals as goal

-- the part that is cut
cut : (c : After-from-to)
    → Part c.args.self.now.hops.now (path_at c.args.self.now.stops.now c.args.self.now.hops.now c.args.k) c.begin-from.result c.from-to.result
cut c = part _ _ _ c.args.self.now.simple c.requires _ _ c.begin-from.ensures c.from-to.ensures

pub offset_bounds-self-from : goal.offset_bounds-self-from
offset_bounds-self-from c =
    let p = cut (goal.at.offset_bounds-self-from c).After-from-to in
    omega (arith, p.rises, p.within, c.args.self.now.simple.few)

pub slice_bounds-result-count : goal.slice_bounds-result-count
slice_bounds-result-count c = (cut (goal.at.slice_bounds-result-count c).After-from-to).rises

pub slice_bounds-result-start : goal.slice_bounds-result-start
slice_bounds-result-start c = (cut (goal.at.slice_bounds-result-start c).After-from-to).rises

pub slice_bounds-result-end : goal.slice_bounds-result-end
slice_bounds-result-end c = (cut (goal.at.slice_bounds-result-end c).After-from-to).within

pub returns : goal.returns
returns c = sym (cut (goal.at.returns c).After-from-to).links
