-- What the answer of a read to the end says, whether a read failed or not.
use Rattle.std.specs.Prelude.{ℕ, Result, Ok, Err}
use Rattle.input.specs.declared.Unread.{Unread}

-- how many bytes were read
abbrev pub bytes_read : Result ℕ Unread → ℕ
bytes_read (Ok bytes) = bytes
bytes_read (Err unread) = unread.bytes
