-- Document 02, request 2: starts that are ruled out are marked, one bit a step. Here a number is marked by a bit in words of 64
-- bits; the lowest bit of the first word is number 0. Nodes that a path visits, and steps in which a link is entered, are marked likewise.
use Rattle.std.specs.Prelude.{◌≡◌, Bool, true, false, List, [], ◌∷◌, ℕ, ◌-◌, ◌/◌, ◌%◌, ◌^◌, ◌≤◌, ◌<◌, eqb, ltb, get_or, set, replicate}
use Rattle.std.specs.Int.{bit_at}
use Rattle.std.specs.Int.Bits.{bit_or}
use Rattle.counting.specs.Count.{pick}

-- whether the number is marked: none beyond the words is
unfoldable pub marked : List ℕ → ℕ → Bool
marked words n = eqb (bit_at (get_or words (n / 64) 0) (n % 64)) 1

-- so many words without a mark
unfoldable pub unmarked : ℕ → List ℕ
unmarked words = replicate words 0

-- the words with the number marked: as they are where it lies beyond them
unfoldable pub with_mark : List ℕ → ℕ → List ℕ
with_mark words n = set words (n / 64) (bit_or (get_or words (n / 64) 0) (2 ^ (n % 64)))

-- the words with no mark in the word of the number: as they are where it lies beyond them
unfoldable pub wiped : List ℕ → ℕ → List ℕ
wiped words n = set words (n / 64) 0

-- with the start marked from which the offset leads to the step: as they are where it leads there from none
unfoldable pub with_start : ℕ → ℕ → List ℕ → List ℕ
with_start offset step words = pick (ltb step offset) words (with_mark words (step - offset))

-- with the start marked of each of these steps
unfoldable pub with_starts : ℕ → List ℕ → List ℕ → List ℕ
with_starts offset [] words = words
with_starts offset (step ∷ steps) words = with_starts offset steps (with_start offset step words)

-- numbers are looked for below this: a start has 16 bits
abbrev pub numbers_most : ℕ
numbers_most = 65536

-- the first number that is not marked, or the bound where all below it are
pub record FirstUnmarked (words : List ℕ) (n : ℕ) : Type 0 where
  pub below : n ≤ numbers_most
  pub free : n < numbers_most → marked words n ≡ false
  pub least : (t : ℕ) → t < n → marked words t ≡ true
