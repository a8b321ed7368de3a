-- From what two texts come to, to what is printed for them.
use mathlib.Core.Path.{◌≡◌}
use mathlib.Core.List.{List}
use Prim.Native.Nat.{ℕ, ◌≤◌}
use native.Mathlib.Omega.{arith}
use lib.ListN.{length}
use Rattle.rules.specs.CheckedTexts.{TextsChecked, checked_texts, printed_check, checks}
use Rattle.lines.specs.Put.{Put}
use Rattle.answer.specs.Told.{PrintedAs}
use Rattle.answer.proofs.Printing.{put_printed}

pub prints : (job plan : List ℕ) {texts : TextsChecked} → texts ≡ checked_texts job plan → {count : ℕ} {lent after : List ℕ}
    → PrintedAs (printed_check texts) count lent after → PrintedAs (checks job plan) count lent after
unfolding checks
prints job plan e p = rw (← e) p

-- a line that is written from the first place on, in a room that it fits
pub line_printed : {text lent after : List ℕ} {next : ℕ} → Put lent 0 text after next → next ≤ length lent → PrintedAs text next lent after
line_printed {text} {lent} put near = let fits : length text ≤ length lent = omega (arith, put.past, near) in put_printed put fits
