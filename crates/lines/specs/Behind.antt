-- What stands in a text behind a place, up to the end of the place's line. A line ends before its line feed or where the text ends, and
-- a field there or before a tab.
use Rattle.std.specs.Prelude.{Bool, true, ◌||◌, List, [], ◌∷◌, ℕ, ◌+◌, eqb, length, take, drop, Option as Answer, None, Some, Result, Ok, Err}
use Rattle.std.proofs.Math.Option.{Option, none, some}
use Rattle.counting.specs.Count.{pick}
use Rattle.rules.specs.Bytes.{tab, line_feed, number_of}
use Rattle.lines.specs.Pieces.{before, pieces_after}
use Rattle.lines.specs.declared.reading.Number.{Number}
use Rattle.lines.specs.declared.reading.Absent.{Absent}
use Rattle.lines.specs.declared.reading.Absent.TheVariants.{NoNumber, NoField}
use Rattle.lines.specs.declared.reading.Copied.{Copied}

-- a byte in front of a tab is a letter
abbrev pub letter_of : List ℕ → Answer ℕ
letter_of [] = None
letter_of (b ∷ []) = None
letter_of (b ∷ c ∷ bs) = pick (eqb c tab) (Some b) None

-- the bytes up to the end of the line
unfoldable pub line_rest : List ℕ → List ℕ
line_rest bytes = take (before line_feed bytes) bytes

-- where the line ends
unfoldable pub line_end : List ℕ → ℕ → ℕ
line_end text at = at + before line_feed (drop at text)

-- the fields of the line behind one that ends at a place, whatever byte stands there
unfoldable pub fields_behind : List ℕ → ℕ → List (List ℕ)
fields_behind text at = pieces_after tab (line_rest (drop at text))

-- the number of a field, and where the field ends
abbrev pub said_up_to : Option ℕ → ℕ → Result Number Absent
said_up_to none end = Err NoNumber
said_up_to (some n) end = Ok (record { value = n; end = end })

-- the first of the fields behind one that ends at a place
abbrev pub first_field : List (List ℕ) → ℕ → Result Number Absent
first_field [] at = Err NoField
first_field (f ∷ fs) at = said_up_to (number_of f) (at + 1 + length f)

-- whether a field ends where these bytes begin
abbrev pub ends_here : List ℕ → Bool
ends_here [] = true
ends_here (b ∷ bs) = eqb b tab || eqb b line_feed

-- the bytes up to the end of the field
unfoldable pub field_rest : List ℕ → List ℕ
field_rest [] = []
field_rest (b ∷ bs) = pick (eqb b tab || eqb b line_feed) [] (b ∷ field_rest bs)

-- the number of the field that begins at a place, and where the field ends
unfoldable pub field_at : List ℕ → ℕ → Result Number Absent
field_at text begin = let field = field_rest (drop begin text) in said_up_to (number_of field) (begin + length field)

-- how many numbers there are, if each field says one, and where their line ends
abbrev pub copied : Option (List ℕ) → ℕ → Answer Copied
copied none end = None
copied (some ns) end = Some (record { count = length ns; end = end })

-- the number of a field in front of others
abbrev pub in_front : Option ℕ → List ℕ → List ℕ
in_front none ns = []
in_front (some n) ns = n ∷ ns

-- the numbers of the fields up to one that says none
unfoldable pub leading : List (List ℕ) → List ℕ
leading [] = []
leading (f ∷ fs) = in_front (number_of f) (leading fs)
