-- Each turn starts the next packet at the first free step; past the last all greedy starts are written.
use Rattle.std.proofs.Common.{◌≡◌, ◌+◌, ◌/◌, length, take, ◌∙◌, sym, length-take, arith}
use Rattle.planner.specs.PacketsInLists.{begin_from}
use Rattle.planner.proofs.Filling.{start_at, one_more, all_written}
use Rattle.planner.proofs.Searching.{start-le_begin}
use Rattle.planner.proofs.EntriesKept.{begin_within, words_lent, search_ready, search_found, enter_ready, entries_next}
use Rattle.planner.proofs.start_each.Goals.{After-begin, After-search-start}
use Rattle.planner.proofs.start_each.Goals as goal

-- the words that are lent to packet k's search
enough : (c : After-begin) → length (take (c.begin.result / 64 + 1) c.loop-k.words) ≡ begin_from 0 c.args.paths.now.stops.now c.loop-k.k / 64 + 1
enough c =
    words_lent _ _ _ _ c.args.paths.now.simple (omega arith) _ _ _ c.loop-k.invariant.1 _ c.path-path.ensures _ _ c.begin.ensures
    (rw c.loop-k.auto.words c.requires.2)

-- what it finds
found : (c : After-search-start) → c.search-start.result ≡ start_at c.args.paths.now.stops.now c.args.paths.now.hops.now c.loop-k.starts c.loop-k.k
found c =
    search_found _ _ _ _ c.args.paths.now.simple (omega arith) _ _ _ c.loop-k.invariant.1 _ c.path-path.ensures _ _
    (enough (goal.at.After-search-start c).After-begin) c.search-start.ensures

pub slice_bounds-search-end : goal.slice_bounds-search-end
slice_bounds-search-end c = omega (arith, enough c, c.begin.ensures, length-take (c.begin.result / 64 + 1) c.loop-k.words)

pub slice_bounds-search-end-in-loop-k : goal.slice_bounds-search-end-in-loop-k
slice_bounds-search-end-in-loop-k c = omega (arith, enough (goal.at.slice_bounds-search-end-in-loop-k c).After-begin, c.begin.ensures)

pub search-start-requires : goal.search-start-requires
search-start-requires c =
    search_ready _ _ _ _ c.args.paths.now.simple (omega arith) _ _ _ c.loop-k.invariant.1 _ c.path-path.ensures _
    (enough (goal.at.search-start-requires c).After-begin)

pub overflow_cast-start : goal.overflow_cast-start
overflow_cast-start c =
    let simple = c.args.paths.now.simple in
    omega (
      arith,
      found (goal.at.overflow_cast-start c).After-search-start,
      start-le_begin _ _ c.loop-k.starts c.loop-k.k simple (omega arith),
      begin_within _ _ _ c.loop-k.k simple (omega arith) _ _ _ c.loop-k.invariant.1 _ c.path-path.ensures,
    )

pub enter-requires : goal.enter-requires
enter-requires c =
    enter_ready _ _ _ _ c.args.paths.now.simple (omega arith) _ _ _ c.loop-k.invariant.1 _ c.path-path.ensures _
    (found (goal.at.enter-requires c).After-search-start)

pub loop-k-preserved : goal.loop-k-preserved
loop-k-preserved c = (
  one_more _ _ _ _ _ (omega arith) c.requires.0 c.loop-k.invariant.0 _ (found (goal.at.loop-k-preserved c).After-search-start),
  let before = c.loop-k.entries in
      let after = c.enter.new.self in
      rw c.enter.ensures.rooms
      (entries_next _ _ _ _ _ (omega arith) (omega (arith, c.requires.0, c.loop-k.auto.starts)) c.args.paths.now.simple _ _ _ c.loop-k.invariant.1
      _ c.path-path.ensures _ _ (after.nexts_length ∙ sym before.nexts_length) (after.steps_length ∙ sym before.steps_length)
      c.enter.ensures.by_index c.enter.ensures.entries),
)

pub returns : goal.returns
returns c =
    let all : c.loop-k.k ≡ length c.args.paths.now.stops.now = omega arith in
    c.loop-k.invariant.0 ∙ rw (all, all_written)
