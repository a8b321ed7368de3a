-- The line cursor: the place where a line begins, and the line's number.
use Rattle.std.specs.Prelude.{ℕ, ◌+◌, min}
use Rattle.lines.specs.declared.reading.Lines.{Lines}

-- the greatest line number that a cursor holds
abbrev pub line_most : ℕ
line_most = 4294967295

-- the number of the line after line n; the greatest stays
abbrev pub line_after : ℕ → ℕ
line_after n = min (n + 1) line_most

-- the cursor at a place, with the number of the line that begins there
abbrev pub cursor_at : ℕ → ℕ → Lines
cursor_at at line = record { at = at; line = line }

-- lines count from 1
abbrev pub top_line : Lines
top_line = cursor_at 0 1
