-- All that the reader has is what was read, up to a byte more than a text may have, and what is printed for it stands first in the room.
use Rattle.std.proofs.Common.{rules, arith, refl, sym, ap, ◌∙◌, subst, ◌≡◌, ℕ, ◌+◌, ◌<◌, ◌≤◌, List, [], ◌++◌, length, take, Option, None, Some, IfSome, Result, Ok, Err, OnOk}
use Rattle.std.proofs.Common.{inl, inr, take_all, length-take-le, append-nil}
use Rattle.std.proofs.Math.Seq.{take-append_seam, take-length}
use Rattle.std.proofs.lemmas.Bool.{cases_lt}
use borrow.Author.Tests.{lt-leb}
use Rattle.std.specs.Result.{is_ok}
use Rattle.std.specs.Io.KnownBytes.{Appends, Consumes, IsAtEnd}
use Rattle.rules.specs.Answers.{answer, printed, plans}
use Rattle.rules.specs.JobText.{reading}
use Rattle.rules.specs.Outcome.{refused}
use Rattle.rules.specs.Sizes.{text_most}
use Rattle.answer.specs.Told.{PrintedAs}
use Rattle.answer.proofs.Printing.{printed_first}
use Rattle.plan.proofs.print.Goals as goal

-- n bytes of those that were there, and all of them if there is room for more
all_read : (xs ys text : List ℕ) (n : ℕ) → n ≤ length text → xs ≡ take n text ++ ys → (n < length text → ys ≡ [])
    → take (length text) xs ≡ take n text
all_read xs ys text n fits split end = elim (cases_lt n (length text)) [
  | inl short ↦ let none = end short in
      rw (split, none, append-nil) (take_all (length text) (take n text) (omega (arith, length-take-le n text fits)))
  | inr full ↦ let same : n ≡ length text = omega arith in rw (split, same, take-length) (take-append_seam text ys)
]

too_long : (text : List ℕ) → text_most < length text → plans text ≡ printed (refused 1 0)
unfolding plans answer reading
too_long text long = rw (lt-leb (length text) text_most long) refl

-- a byte more than a text may have tells the same as all that are too many
as_of_all : (bytes : List ℕ) → plans (take (text_most + 1) bytes) ≡ plans bytes
as_of_all bytes = elim (cases_lt text_most (length bytes)) [
  | inl long ↦ too_long _ (omega (arith, length-take-le (text_most + 1) bytes (omega arith))) ∙ sym (too_long bytes long)
  | inr short ↦ ap plans (take_all (text_most + 1) bytes (omega arith))
]

handed_on : (a b old new : Option (List ℕ)) (text lent room : List ℕ) (n count : ℕ) → length text ≡ text_most + 1 → n ≤ length text
    → Consumes a b (take n text) → (n < length text → IsAtEnd b) → PrintedAs (plans (take n text)) count lent room
    → Appends old new (take count room) → IfSome a (λ xs. Appends old new (plans xs))
handed_on None b old new text lent room n count long fits read end printed written = tt
handed_on (Some xs) None old new text lent room n count long fits read end printed written = absurd read
handed_on (Some xs) (Some ys) old new text lent room n count long fits read end printed written =
    let same = all_read xs ys text n fits read end in
    let first = printed_first _ lent room count printed in
    subst (Appends old new) (first ∙ ap plans (sym same ∙ ap (λ m. take m xs) long) ∙ as_of_all xs) written

-- another error in place of the one that there is says no more of what is written
on_other_error : {T E F P Q : Type 0} (r : Result T E) (s : Result T F) → is_ok s ≡ is_ok r → (P → Q) → OnOk r P → OnOk s Q
on_other_error (Ok x) (Ok y) same weaker p = weaker p
on_other_error (Ok x) (Err e) same weaker p = tt
on_other_error (Err e) (Ok x) same weaker p = absurd (cc)
on_other_error (Err e) (Err f) same weaker p = tt

pub returns-clause-written : goal.returns-clause-written
returns-clause-written g c =
    on_other_error _ _ c.map_err.ensures.variant
    (handed_on _ _ _ _ _ _ _ _ _ (search rules) c.in_ok-bytes.ensures.near c.in_ok-bytes.ensures.in_order
    c.in_ok-bytes.ensures.to_the_end c.print-count.ensures.printed_as)
    c.write_all.ensures.bytes
