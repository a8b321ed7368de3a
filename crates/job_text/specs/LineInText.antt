-- What the reader's own functions promise of a line by itself: what it says and where it ends.
use Rattle.std.specs.Prelude.{◌≡◌, List, [], ℕ, ◌+◌, ◌≤◌, ◌<◌, ltb, length, take, drop, Option, MatchOption}
use Rattle.counting.specs.Count.{pick}
use Rattle.rules.specs.Bytes.{numbers_of}
use Rattle.rules.specs.JobText.{Line as Said, nodes, link, packet, bad, letter_line, line_of}
use Rattle.lines.specs.Behind.{line_rest, line_end, fields_behind}
use Rattle.job_text.specs.declared.Line.{Line}
use Rattle.job_text.specs.declared.Line.TheVariants.{Nodes, Link, Packet}
use Rattle.job_text.specs.declared.Found.{Found}

-- a line that no line feed ends is bad
abbrev pub ended : List ℕ → ℕ → Said → Said
ended text at said = pick (ltb (line_end text at) (length text)) said bad

-- what the line says that begins at a place of a text
unfoldable pub said_at : List ℕ → ℕ → Said
said_at text at = ended text at (line_of (line_rest (drop at text)))

-- and what it says by a letter that ends at a place and the fields behind that
unfoldable pub said_behind : ℕ → List ℕ → ℕ → Said
said_behind letter text at = ended text at (letter_line letter (numbers_of (fields_behind text at)))

abbrev pub path_of : Said → List ℕ
path_of (nodes n) = []
path_of (link from to) = []
path_of (packet source path) = path
path_of bad = []

abbrev pub line_told : List ℕ → Line → Said
line_told path (Nodes n) = nodes n
line_told path (Link from to) = link from to
line_told path (Packet source count) = packet source path

-- a path of so many hops stands in a list from a place on, if the list has room for it
pub record PathStands (count : ℕ) (hops : List ℕ) (from : ℕ) (path : List ℕ) : Type 0 where
  pub many : count ≡ length path
  pub here : from + count ≤ length hops → take count (drop from hops) ≡ path

abbrev pub Stands : Line → List ℕ → ℕ → List ℕ → Type 0
Stands (Nodes n) hops from path = Unit
Stands (Link start end) hops from path = Unit
Stands (Packet source count) hops from path = PathStands count hops from path

-- what is told of a line is what it says, and its path stands in the hops
pub record LineAs (said : Said) (told : Line) (hops : List ℕ) (from : ℕ) : Type 0 where
  pub says : line_told (path_of said) told ≡ said
  pub stands : Stands told hops from (path_of said)

-- and it is told where it ends, at its line feed
pub record FoundAs (said : Said) (text : List ℕ) (at : ℕ) (found : Found) (hops : List ℕ) (from : ℕ) : Type 0 where
  pub line : LineAs said found.line hops from
  pub ends : found.end ≡ line_end text at
  pub fed : found.end < length text

-- a line is told, or nothing of a bad one
abbrev pub ToldAs : Said → List ℕ → ℕ → Option Found → List ℕ → ℕ → Type 0
ToldAs said text at told hops from = MatchOption told (said ≡ bad) (λ found. FoundAs said text at found hops from)
