-- A text written into a lent list of bytes.
use Rattle.std.specs.Prelude.{◌≡◌, List, [], ℕ, ◌+◌, ◌*◌, ◌^◌, nat_lt, length}
use Rattle.std.proofs.lemmas.List.Edits.{sets}
use Rattle.counting.specs.Count.{pick}
use Rattle.rules.specs.Bytes.{line_text}

-- The text stands from place `at` on, as far as the list goes; nothing else changed; `next` is the place after the text.
pub record Put (before : List ℕ) (at : ℕ) (text after : List ℕ) (next : ℕ) : Type 0 where
  pub stored : after ≡ sets before at text
  pub past : next ≡ at + length text

-- no line of so many 32-bit numbers is longer: letter and line feed, and of each number a tab and ten digits
abbrev pub longest_line : ℕ → ℕ
longest_line numbers = 2 + 11 * numbers

-- the text of a line of so many numbers; of so many that the place after it may be no 64-bit number, none
abbrev pub line_written : ℕ → (letter : ℕ) → List ℕ → List ℕ
line_written count letter numbers = pick (nat_lt count (2 ^ 32)) (line_text letter numbers) []
