-- The nodes that a path has visited, a mark for each.
use Rattle.std.specs.Prelude.{◌≡◌, List, ℕ, ◌+◌, ◌*◌, ◌/◌, ◌%◌, ◌≤◌, ◌<◌, ltb, length}
use Rattle.counting.specs.Count.{pick, among}
use Rattle.rules.specs.Sizes.{nodes_most}
use Rattle.marks.specs.Marks.{marked, with_mark}

-- the number by which a node is marked: nodes of neighbouring numbers have their marks in different words, of 16
unfoldable pub mark_of : ℕ → ℕ
mark_of node = node % 16 * 64 + node / 16

-- the words with the node marked: as they are where it is none of a job
unfoldable pub with_visit : List ℕ → ℕ → List ℕ
with_visit words node = pick (ltb node nodes_most) (with_mark words (mark_of node)) words

-- the words have a bit for each node of a job, and it is set exactly if the node is visited
pub record MarkedAs (visited words : List ℕ) : Type 0 where
  pub room : nodes_most ≤ 64 * length words
  pub told : (n : ℕ) → n < nodes_most → marked words (mark_of n) ≡ among n visited
