-- What is printed, and the room afterwards, has one outcome.
use mathlib.Core.Path.{◌≡◌, sym, ◌∙◌}
use mathlib.Core.List.{List}
use Prim.Native.Nat.{ℕ}
use Rattle.answer.specs.Told.{PrintedAs}

pub printed_once : {text lent after other : List ℕ} {m n : ℕ} → PrintedAs text m lent after → PrintedAs text n lent other → (m ≡ n) × (after ≡ other)
printed_once p q = (p.bytes ∙ sym q.bytes, p.room ∙ sym q.room)
