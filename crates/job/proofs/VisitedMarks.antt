-- The marks of the nodes that a path has visited: of its source before the first hop, and of one node more with each hop.
use Rattle.std.proofs.Common.{◌≡◌, ℕ, ◌+◌, ◌*◌, ◌≤◌, ◌<◌, ◌||◌, eqb, Some, List, [], ◌∷◌, ◌++◌, length, get_or, slice_get, take, replicate, add-one, arith}
use Rattle.std.proofs.Math.Bool.{or-false}
use Rattle.std.proofs.Math.Seq.{take-suc}
use native.Mathlib.Decide.{dec_lt}
use borrow.Author.Tests.{ne_eqb, lt-ltb, le-ltb}
use Rattle.counting.proofs.Tests.{any_append}
use Rattle.rules.specs.Sizes.{nodes_most}
use Rattle.marks.specs.Marks.{marked, unmarked}
use Rattle.marks.proofs.Marking.{same_test, none_marked, length-unmarked, marked-with_mark, length-with_mark}
use Rattle.job.specs.Lists.{entered}
use Rattle.job.specs.Visited.{mark_of, with_visit, MarkedAs}
use Rattle.job.proofs.VerdictLoops.{entered-more}

-- a node's mark has a place among the words, and no other node's
mark_within : (node : ℕ) → node < nodes_most → mark_of node < nodes_most
unfolding mark_of
mark_within node l = omega arith

same_mark : (a b : ℕ) → a < nodes_most → b < nodes_most → eqb (mark_of a) (mark_of b) ≡ eqb a b
unfolding mark_of
same_mark a b h l = same_test (mark_of a) (mark_of b) a b (λ e. omega arith) (λ e. omega arith)

-- one node more is visited: it is marked if it is a node of a job, and else the words stay
visit_length : (words : List ℕ) (node : ℕ) → length (with_visit words node) ≡ length words
unfolding with_visit
visit_length words node = elim (dec_lt node nodes_most) [
  | yes l ↦ rw (lt-ltb node nodes_most l, length-with_mark words (mark_of node))
  | no h ↦ rw (le-ltb node nodes_most (omega arith))
]

visit_marks : (words : List ℕ) (node n : ℕ) → nodes_most ≤ 64 * length words → n < nodes_most
    → marked (with_visit words node) (mark_of n) ≡ (marked words (mark_of n) || eqb node n)
unfolding with_visit
visit_marks words node n room l = elim (dec_lt node nodes_most) [
  | yes h ↦ rw (lt-ltb node nodes_most h, marked-with_mark words (mark_of node) (mark_of n) (omega (arith, mark_within n l)), same_mark node n h l)
  | no h ↦ rw (le-ltb node nodes_most (omega arith), ne_eqb node n (λ e. omega arith), or-false)
]

-- with one node more the marks tell those that are visited still
marked_more : (visited words : List ℕ) (node : ℕ) → MarkedAs visited words → MarkedAs (visited ++ (node ∷ [])) (with_visit words node)
marked_more visited words node m =
    record {
      room = rw (visit_length words node) m.room;
      told = λ n l. rw (visit_marks words node n m.room l, m.told n l, any_append (λ m. eqb m n) visited, or-false);
    }

none_visited : (n : ℕ) → nodes_most ≤ 64 * n → MarkedAs [] (replicate n 0)
unfolding unmarked
none_visited n room = record { room = rw (length-unmarked n) room; told = λ node l. none_marked n (mark_of node) }

-- before the first hop it is the source alone
pub visited_start : (n : ℕ) (ends : List ℕ) (source : ℕ) {words : List ℕ} → nodes_most ≤ 64 * n → words ≡ with_visit (replicate n 0) source
    → MarkedAs (source ∷ entered ends []) words
unfolding entered
visited_start n ends source room w = rw w (marked_more [] (replicate n 0) source (none_visited n room))

-- and before hop p those too that the hops before it enter
abbrev pub VisitedBefore : (ends path : List ℕ) (source p : ℕ) → List ℕ → Type 0
VisitedBefore ends path source p words = MarkedAs (source ∷ entered ends (take p path)) words

pub visited_turn : (ends path : List ℕ) (source p : ℕ) {link node : ℕ} (words : List ℕ) {more : List ℕ} → link ≡ get_or path p 0 → p < length path
    → slice_get ends link ≡ Some node → VisitedBefore ends path source p words → more ≡ with_visit words node → VisitedBefore ends path source (p + 1) more
visited_turn ends path source p {link} {node} words e h s m w =
    rw (w, add-one p, take-suc path p 0, ← e, entered-more ends (take p path) link node s) (marked_more (source ∷ entered ends (take p path)) words node m)
