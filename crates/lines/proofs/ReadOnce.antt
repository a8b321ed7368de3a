-- Each contract of the reading functions has one outcome: they say the answer outright, and copying says the list too.
use mathlib.Core.Path.{◌≡◌, sym, ◌∙◌}
use mathlib.Core.List.{List}
use Prim.Native.Nat.{ℕ}
use lib.Seq.{sets}
use Rattle.std.proofs.Common.{Option as Answer}
use Rattle.rules.specs.Bytes.{numbers_of}
use Rattle.lines.specs.declared.reading.Copied.{Copied}
use Rattle.lines.specs.Behind.{fields_behind, line_end, copied, leading}

-- what copying the numbers behind a place promises
abbrev CopiedAs : List ℕ → ℕ → List ℕ → ℕ → Answer Copied → List ℕ → Type 0
CopiedAs text at lent from r after =
    (r ≡ copied (numbers_of (fields_behind text at)) (line_end text at)) × (after ≡ sets lent from (leading (fields_behind text at)))

pub copied_once : (text : List ℕ) (at : ℕ) (lent : List ℕ) (from : ℕ) {r s : Answer Copied} {after other : List ℕ}
    → CopiedAs text at lent from r after → CopiedAs text at lent from s other → (r ≡ s) × (after ≡ other)
copied_once text at lent from p q = (p.0 ∙ sym q.0, p.1 ∙ sym q.1)
