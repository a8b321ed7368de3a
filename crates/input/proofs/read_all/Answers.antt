-- What a read gave stands behind what was there, and is what the reader gave next.
use Rattle.std.proofs.Common.{rules, ◌≡◌, ℕ, ◌+◌, ◌≤◌, List, ◌++◌, length, take, sym, ap, ◌∙◌, subst, length-take-le}
use Rattle.std.proofs.KnownBytes.{Consumes-trans}
use Rattle.std.proofs.Math.Seq.{take-append-add}
use Rattle.std.proofs.lemmas.List.{take-append-le}
use Rattle.std.specs.Io.KnownBytes.{Consumes}
use Rattle.input.proofs.read_all.Goals as goal
use borrow.Rule.Slice.PartMut.{put_mid}

grown : (a k n : ℕ) (xs ys : List ℕ) → a ≤ length xs → n ≤ length ys → take (a + n) (put_mid a k xs ys) ≡ take a xs ++ take n ys
grown a k n xs ys within fits =
    ap (λ m. take (m + n) (put_mid a k xs ys)) (sym (length-take-le a xs within)) ∙ take-append-add (take a xs) _ n
    ∙ ap (λ l. take a xs ++ l) (take-append-le n ys _ fits)

pub loop-bytes-preserved : goal.loop-bytes-preserved
loop-bytes-preserved g c = (
  search rules,
  subst (Consumes _ _) (sym (grown _ _ _ _ _ c.loop-bytes.invariant.0 c.in-Ok.ensures.bound.0))
      (Consumes-trans _ _ _ _ _ c.loop-bytes.invariant.1 c.in-Ok.ensures.bytes.0),
)
