-- A word that is looked at is full, or it has the first number without a mark. Where all are full, that comes after them.
use Rattle.std.proofs.Common.{◌≡◌, ◌∙◌, sym, arith}
use lib.ListN.{length, take, length-take}
use Rattle.marks.proofs.Marking.{looked_at, full_word, first_in_word, first_past_words}
use Rattle.marks.proofs.first_unmarked.Goals as goal

pub loop-at-preserved : goal.loop-at-preserved
loop-at-preserved c = full_word _ _ c.loop-at.invariant (sym (looked_at _ _ _ c.loop-at-test.true) ∙ c.if-word.false)

pub returns-after-loop-at : goal.returns-after-loop-at
returns-after-loop-at c =
    let looked = length-take c.min.result c.args.words.now in
    let all : length (take c.min.result c.args.words.now) ≡ c.loop-at.at = omega arith in
    rw all (first_past_words _ _ c.loop-at.invariant (omega arith) (λ l. omega arith))

pub returns-then-word : goal.returns-then-word
returns-then-word c =
    let word = looked_at _ _ _ c.loop-at-test.true in
    rw (c.trailing_ones.ensures, word)
    (first_in_word _ _ c.loop-at.invariant (omega (arith, length-take c.min.result c.args.words.now)) (omega (arith, word, c.type_inv.words c.loop-at.at)))
