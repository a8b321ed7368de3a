-- What is left of a plan from a place on: the line there and the pieces behind it, and the S lines with what is stored of them.
use mathlib.Core.Path.{◌≡◌, refl, sym, ap, ◌∙◌}
use mathlib.Core.Bool.{Bool, true, false}
use mathlib.Core.List.{List, [], ◌∷◌, head-eq_of_cons-eq, tail-eq_of_cons-eq, nil≢cons}
use mathlib.Core.Option.{Option, none, some}
use Prim.Native.Nat.{ℕ, suc, ◌+◌, ◌≤◌, ◌<◌}
use native.Mathlib.Numerals.{add-one}
use native.Mathlib.Nat.{add_assoc}
use native.Mathlib.Decide.{dec_lt}
use native.Mathlib.Omega.{arith}
use borrow.Author.Tests.{eqb-true, eq-eqb, ne_eqb}
use lib.Dec.{eqb}
use lib.ListN.{length, drop, set, length-set, drop_of_length-le}
use lib.Seq.{length-take-le, drop-cons, drop-drop, sets}
use Rattle.std.proofs.Common.{Option as Answer, None, Some, Result, Ok, Err}
use Rattle.std.specs.Option.{ok_or}
use Rattle.counting.specs.Count.{pick}
use Rattle.rules.specs.Bytes.{line_feed, letter_s, letter_t, split, begins}
use Rattle.rules.specs.PlanBack.{Three as Said, three_of, ended, starts_of, nothing}
use Rattle.theorems.proofs.TextPieces.{split_first}
use Rattle.job.specs.declared.Refusal.{Refusal}
use Rattle.job.specs.declared.Refusal.TheVariants.{BadForm}
use Rattle.lines.specs.declared.reading.Lines.{Lines}
use Rattle.lines.specs.Cursor.{line_after}
use Rattle.lines.specs.Pieces.{before, pieces_after}
use Rattle.lines.proofs.Cuts.{before-le, split_cut}
use Rattle.lines.proofs.LetterAndFeed.{begun}
use Rattle.plan_text.specs.declared.reading.ThreeLine.{ThreeLine}
use Rattle.plan_text.specs.declared.reading.Rows.{Rows}
use Rattle.plan_text.specs.PlanLines.{three_told, told_three, behind, with_next, line_at, rows_left, rows_at, rows_up_to, rows_found}
use Rattle.plan_text.specs.PlanLines.{ends_of, starts_stored, ends_stored, totals_at}

-- ---- a letter in front

-- the first piece begins as the bytes do
pub begins-split : (bs p : List ℕ) (ps : List (List ℕ)) → split line_feed bs ≡ p ∷ ps → begins letter_s p ≡ begins letter_s bs
unfolding split
begins-split [] p ps e = rw (← head-eq_of_cons-eq e)
begins-split (b ∷ bs) p ps e = let (q, qs, f) = split_first line_feed bs in go (eqb b line_feed) refl q qs (rw f at e)
  where
    go : (t : Bool) → eqb b line_feed ≡ t → (q : List ℕ) (qs : List (List ℕ)) → pick t ([] ∷ q ∷ qs) ((b ∷ q) ∷ qs) ≡ p ∷ ps
        → begins letter_s p ≡ eqb b letter_s
    go true s q qs e = rw (← head-eq_of_cons-eq e, eqb-true b line_feed s)
    go false s q qs e = rw (← head-eq_of_cons-eq e)

-- ---- what `ok_or` answers

module _ {A E : Type 0} (why : E) where
  pub ok_some : (o : Answer A) {a : A} → Ok a ≡ ok_or o why → o ≡ Some a
  ok_some (Some b) e = cc
  ok_some None e = absurd cc

  pub err_none : (o : Answer A) {r : E} → Err r ≡ ok_or o why → (o ≡ None) × (r ≡ why)
  err_none (Some b) e = absurd cc
  err_none None e = (refl, cc)

-- ---- the line at a place

-- behind a piece that is ended stand the pieces of the bytes after its line feed
after_piece : (bs p q : List ℕ) (qs : List (List ℕ)) → split line_feed bs ≡ p ∷ q ∷ qs → split line_feed (drop (length p + 1) bs) ≡ q ∷ qs
after_piece bs p q qs e =
    let w = sym (split_cut line_feed bs) ∙ e in
    let here = sym (length-take-le (before line_feed bs) bs (before-le line_feed bs)) ∙ ap length (head-eq_of_cons-eq w) in
    elim (dec_lt (length p) (length bs)) [
      | yes h ↦ rw (add-one) (rw (here, drop-cons bs (length p) 0) at (tail-eq_of_cons-eq w))
      | no h ↦ (
          let past : length bs ≤ before line_feed bs = omega (arith, here) in
          absurd (nil≢cons (sym (ap (pieces_after line_feed) (drop_of_length-le bs past)) ∙ tail-eq_of_cons-eq w))
          )
    ]

module _ (plan : List ℕ) (c : Lines) where
  abbrev pieces : List (List ℕ)
  pieces = split line_feed (drop c.at plan)

  pub pieces-behind : (p q : List ℕ) (qs : List (List ℕ)) → pieces ≡ p ∷ q ∷ qs → split line_feed (drop (behind c p).at plan) ≡ q ∷ qs
  pieces-behind p q qs e = rw (add_assoc c.at (length p) 1, ← drop-drop (length p + 1) c.at plan) (after_piece (drop c.at plan) p q qs e)

  -- a line of this letter stands here: what it says, and the pieces behind it
  pub record IsLine (letter : ℕ) (line : ThreeLine) : Type 0 where
    pub piece : List ℕ
    pub rest : List (List ℕ)
    pub here : pieces ≡ piece ∷ rest
    pub says : ended rest (three_of letter piece) ≡ some (three_told line.said)
    pub moved : behind c piece ≡ line.next
    pub left : split line_feed (drop line.next.at plan) ≡ rest

  with_some : (o : Option Said) (n : Lines) {line : ThreeLine} → with_next o n ≡ Some line → (o ≡ some (three_told line.said)) × (n ≡ line.next)
  with_some none n e = cc
  with_some (some t) n {line} e =
      let same : record { said = told_three t; next = n } ≡ line = cc in
      (ap (λ (l : ThreeLine). some (three_told l.said)) same, ap (λ (l : ThreeLine). l.next) same)

  pub is_line : {letter : ℕ} {line : ThreeLine} → line_at plan c letter ≡ Some line → IsLine letter line
  unfolding line_at
  is_line {letter} {line} e = let (p, ps, f) = split_first line_feed (drop c.at plan) in go p ps f (rw f at e)
    where
      go : (p : List ℕ) (ps : List (List ℕ)) → pieces ≡ p ∷ ps → with_next (ended ps (three_of letter p)) (behind c p) ≡ Some line → IsLine letter line
      go p [] f e = absurd cc
      go p (q ∷ qs) f e =
          let (says, moved) = with_some (three_of letter p) (behind c p) e in
          record { piece = p; rest = q ∷ qs; here = f; says = says; moved = moved; left = rw (← moved) (pieces-behind p q qs f) }

  -- no such line stands here
  pub record NoLine (letter : ℕ) : Type 0 where
    pub piece : List ℕ
    pub rest : List (List ℕ)
    pub here : pieces ≡ piece ∷ rest
    pub says : ended rest (three_of letter piece) ≡ none

  with_none : (o : Option Said) (n : Lines) → with_next o n ≡ None → o ≡ none
  with_none none n e = refl
  with_none (some t) n e = cc

  pub no_line : {letter : ℕ} → line_at plan c letter ≡ None → NoLine letter
  unfolding line_at
  no_line {letter} e =
      let (p, ps, f) = split_first line_feed (drop c.at plan) in
      record { piece = p; rest = ps; here = f; says = with_none (ended ps (three_of letter p)) (behind c p) (rw f at e) }

-- ---- the S lines from packet k on

module _ (plan : List ℕ) (c : Lines) (k : ℕ) where
  rows_end : begins letter_s (drop c.at plan) ≡ false → (rows_left c k (pieces plan c) ≡ Ok (record { count = k; next = c })) × (rows_up_to k (pieces plan c) ≡ [])
  unfolding rows_left rows_up_to
  rows_end b = let (p, ps, f) = split_first line_feed (drop c.at plan) in rw (f, begins-split (drop c.at plan) p ps f, b) (refl, refl)

  module _ (b : begins letter_s (drop c.at plan) ≡ true) where
    rows_none : NoLine plan c letter_s → (rows_left c k (pieces plan c) ≡ Err (BadForm c.line)) × (rows_up_to k (pieces plan c) ≡ [])
    unfolding rows_left rows_up_to
    rows_none n = rw (n.here, begins-split (drop c.at plan) n.piece n.rest n.here, b, n.says) (refl, refl)

    module _ {line : ThreeLine} (l : IsLine plan c letter_s line) where
      rows_wrong : (line.said.first ≡ k → ⊥) → (rows_left c k (pieces plan c) ≡ Err (BadForm c.line)) × (rows_up_to k (pieces plan c) ≡ [])
      unfolding rows_left rows_up_to
      rows_wrong n =
          rw (l.here, begins-split (drop c.at plan) l.piece l.rest l.here, b, l.says, ne_eqb line.said.first k n) (refl, refl)

      rows_turn : line.said.first ≡ k
          → (rows_left c k (pieces plan c) ≡ rows_left line.next (suc k) (pieces plan line.next))
          × (rows_up_to k (pieces plan c) ≡ record { start = line.said.second; end = line.said.third } ∷ rows_up_to (suc k) (pieces plan line.next))
      unfolding rows_left rows_up_to
      rows_turn s =
          rw (l.left, l.here, begins-split (drop c.at plan) l.piece l.rest l.here, b, l.says, eq-eqb line.said.first k s, l.moved)
          (refl, refl)

-- ---- the loop

-- with k rows stored, those from c on are what is left of the rows from the first place on
pub record Left (plan starts₀ ends₀ : List ℕ) (c₀ : Lines) (starts ends : List ℕ) (c : Lines) (k : ℕ) : Type 0 where
  pub starts_length : length starts ≡ length starts₀
  pub ends_length : length ends ≡ length ends₀
  pub within : k ≤ c.at
  pub told : rows_at plan c₀ ≡ rows_left c k (pieces plan c)
  pub starts_left : starts_stored starts₀ (rows_found plan c₀) ≡ sets starts k (starts_of (rows_up_to k (pieces plan c)))
  pub ends_left : ends_stored ends₀ (rows_found plan c₀) ≡ sets ends k (ends_of (rows_up_to k (pieces plan c)))

pub left-start : (plan starts ends : List ℕ) (c : Lines) → Left plan starts ends c starts ends c 0
unfolding rows_at
left-start plan starts ends c =
    record { starts_length = refl; ends_length = refl; within = omega arith; told = refl; starts_left = refl; ends_left = refl }

module _ {plan starts₀ ends₀ : List ℕ} {c₀ : Lines} {starts ends : List ℕ} {c : Lines} {k : ℕ} (l : Left plan starts₀ ends₀ c₀ starts ends c k) where
  abbrev Told : Result Rows Refusal → Type 0
  Told r = (r ≡ rows_at plan c₀) × (starts ≡ starts_stored starts₀ (rows_found plan c₀)) × (ends ≡ ends_stored ends₀ (rows_found plan c₀))

  finish : {r : Result Rows Refusal} → (rows_left c k (pieces plan c) ≡ r) × (rows_up_to k (pieces plan c) ≡ []) → Told r
  finish (e, f) = (sym (l.told ∙ e), sym (l.starts_left ∙ rw f), sym (l.ends_left ∙ rw f))

  pub left_end : begins letter_s (drop c.at plan) ≡ false → Told (Ok (record { count = k; next = c }))
  left_end b = finish (rows_end plan c k b)

  module _ (b : begins letter_s (drop c.at plan) ≡ true) where
    pub left_inside : c.at < length plan
    left_inside = (begun letter_s plan c.at b).0

    pub left_none : line_at plan c letter_s ≡ None → Told (Err (BadForm c.line))
    left_none e = finish (rows_none plan c k b (no_line plan c e))

    module _ {line : ThreeLine} (e : line_at plan c letter_s ≡ Some line) where
      pub left_wrong : (line.said.first ≡ k → ⊥) → Told (Err (BadForm c.line))
      left_wrong n = finish (rows_wrong plan c k b (is_line plan c e) n)

      -- the place moves on
      pub left_forward : c.at < line.next.at
      left_forward = omega (arith, ap (λ (d : Lines). d.at) (is_line plan c e).moved)

      pub left_turn : line.said.first ≡ k
          → Left plan starts₀ ends₀ c₀ (set starts k line.said.second) (set ends k line.said.third) line.next (k + 1)
      left_turn s =
          let (told, found) = rows_turn plan c k b (is_line plan c e) s in
          record {
            starts_length = length-set starts k line.said.second ∙ l.starts_length;
            ends_length = length-set ends k line.said.third ∙ l.ends_length;
            within = omega (arith, left_forward, l.within);
            told = l.told ∙ told ∙ rw add-one;
            starts_left = l.starts_left ∙ rw (found, add-one);
            ends_left = l.ends_left ∙ rw (found, add-one);
          }

-- ---- the T line

something_left : (b : ℕ) (bs : List ℕ) → nothing (split line_feed (b ∷ bs)) ≡ false
unfolding split
something_left b bs = let (q, qs, f) = split_first line_feed bs in rw f (go (eqb b line_feed) q qs)
  where
    go : (t : Bool) (q : List ℕ) (qs : List (List ℕ)) → nothing (pick t ([] ∷ q ∷ qs) ((b ∷ q) ∷ qs)) ≡ false
    go true q qs = refl
    go false q qs = refl

module _ (plan : List ℕ) (c : Lines) where
  pub totals_none : line_at plan c letter_t ≡ None → Err (BadForm c.line) ≡ totals_at plan c
  unfolding totals_at
  totals_none e = let n = no_line plan c e in rw (n.here, n.says)

  module _ {line : ThreeLine} (e : line_at plan c letter_t ≡ Some line) where
    totals_by_rest : totals_at plan c ≡ pick (nothing (pieces plan line.next)) (Ok line.said) (Err (BadForm line.next.line))
    unfolding totals_at
    totals_by_rest =
        let l = is_line plan c e in
        let next : line_after c.line ≡ line.next.line = ap (λ (d : Lines). d.line) l.moved in
        rw (l.left, l.here, l.says, next)

    pub totals_more : line.next.at < length plan → Err (BadForm line.next.line) ≡ totals_at plan c
    totals_more h = sym (totals_by_rest ∙ rw (drop-cons plan line.next.at 0, something_left))

    pub totals_end : length plan ≤ line.next.at → Ok line.said ≡ totals_at plan c
    unfolding split
    totals_end h = sym (totals_by_rest ∙ rw (drop_of_length-le plan h))
