-- A text written from a place on has one outcome: two lists and places after it that meet the contract are equal.
use mathlib.Core.Path.{◌≡◌, sym, ◌∙◌}
use mathlib.Core.List.{List}
use Prim.Native.Nat.{ℕ}
use Rattle.lines.specs.Put.{Put}

pub put_once : {before text after other : List ℕ} {at next further : ℕ} → Put before at text after next → Put before at text other further → (after ≡ other) × (next ≡ further)
put_once p q = (p.stored ∙ sym q.stored, p.past ∙ sym q.past)
