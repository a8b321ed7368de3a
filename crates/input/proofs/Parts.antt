-- What a writer holds that was given a line in four parts.
use Rattle.std.proofs.Common.{ℕ, List, ◌++◌, Option}
use Rattle.std.proofs.KnownBytes.{Appends-trans}
use Rattle.std.specs.Io.KnownBytes.{Appends}

-- they stand one behind the other
pub four_parts : (a b c d e : Option (List ℕ)) (p q r s : List ℕ) → Appends a b p → Appends b c q → Appends c d r → Appends d e s
    → Appends a e (p ++ q ++ r ++ s)
four_parts a b c d e p q r s first second third fourth =
    let two = Appends-trans a b c p q first second in
    let three = Appends-trans a c d (p ++ q) r two third in
    Appends-trans a d e (p ++ q ++ r) s three fourth
