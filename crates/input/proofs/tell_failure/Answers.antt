-- The four parts stand one behind the other in what the writer holds.
use Rattle.std.proofs.Common.{ℕ, List, ◌++◌, Option}
use Rattle.std.proofs.lemmas.Result.{on_ok_weaker}
use Rattle.std.specs.Io.KnownBytes.{Appends}
use Rattle.input.proofs.Parts.{four_parts}
use Rattle.input.proofs.tell_failure.Goals as goal

some_words : (a b c d e : Option (List ℕ)) (p q r s : List ℕ) → Appends a b p → Appends b c q → Appends c d r → Appends d e s
    → (words : List ℕ) × Appends a e (p ++ q ++ words ++ s)
some_words a b c d e p q r s first second third fourth = (r, four_parts a b c d e p q r s first second third fourth)

pub returns : goal.returns
returns g c =
    on_ok_weaker _
    (some_words _ _ _ _ _ _ _ _ _ c.in_ok-write_all.ensures.bytes c.in_ok-write_all-2.ensures.bytes c.in_ok-write_all-3.ensures.bytes)
    c.write_all-4.ensures.bytes
