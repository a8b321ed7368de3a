-- What the lines of a plan say, held against what follows from the starts: packet by packet, and on the T line.
use mathlib.Core.Path.{◌≡◌, refl, sym, ap, ◌∙◌}
use mathlib.Core.Bool.{◌&&◌}
use mathlib.Core.List.{List, [], ◌∷◌}
use Prim.Native.Nat.{ℕ, suc, ◌+◌, ◌≤◌, ◌<◌}
use native.Mathlib.Numerals.{add-one}
use native.Mathlib.Omega.{arith}
use lib.Dec.{eqb, leb}
use lib.ListN.{length, get_or, drop, drop_of_length-le}
use lib.Seq.{drop-cons}
use borrow.Author.Tests.{le-leb, lt-leb, eq-eqb, ne_eqb}
use Rattle.counting.proofs.Places.{from_place}
use Rattle.rules.specs.Sizes.{start_most}
use Rattle.rules.specs.Network.{Job, paths}
use Rattle.rules.specs.Travel.{one_step, delay_of}
use Rattle.rules.specs.Outcome.{Verdict, is, refused, fine, must, ◌then◌, onward}
use Rattle.rules.specs.Counts.{end_of, routing_time, congestion, dilation}
use Rattle.rules.specs.PlanBack.{Three, rows_verdict, starts_of, totals_verdict, followed}
use Rattle.job.proofs.Pairs.{AtPair}
use Rattle.plan_text.specs.PlanLines.{rows_in}

-- ---- the packets' lines

-- the verdict on the rows is that on those from packet k on
pub record RowsLeft (paths : List (List ℕ)) (starts ends : List ℕ) (k : ℕ) : Type 0 where
  pub left : rows_verdict one_step 1 (rows_in starts ends) paths ≡ rows_verdict one_step (k + 1) (rows_in (drop k starts) (drop k ends)) (drop k paths)

module _ {paths : List (List ℕ)} {starts ends : List ℕ} {k : ℕ} (w : RowsLeft paths starts ends k) (same : length paths ≡ length starts) where
  module _ {packet start end : ℕ} (row : AtPair starts ends k (packet, (start, end))) where
    here : rows_verdict one_step 1 (rows_in starts ends) paths
        ≡ (must (leb (get_or starts k 0) start_most) 12 (k + 1)
        then must (eqb (get_or ends k 0) (end_of one_step (get_or starts k 0) (get_or paths k []))) 14 (k + 1)
        then rows_verdict one_step (k + 1 + 1) (rows_in (drop (k + 1) starts) (drop (k + 1) ends)) (drop (k + 1) paths))
    unfolding rows_verdict rows_in
    here =
        let on : k < length paths = omega (arith, row.first) in
        w.left ∙ rw (drop-cons paths k [] on, from_place starts k row.first, from_place ends k row.second, add-one (k + 1), add-one k)

    pub row_late : start_most < start → refused 12 (packet + 1) ≡ rows_verdict one_step 1 (rows_in starts ends) paths
    row_late l = rw row.number (sym (here ∙ rw (lt-leb _ _ (rw row.one at l))))

    module _ {due : ℕ} (in_time : start ≤ start_most) (is_due : due ≡ end_of one_step (get_or starts packet 0) (get_or paths packet [])) where
      pub row_off : (end ≡ due → ⊥) → refused 14 (packet + 1) ≡ rows_verdict one_step 1 (rows_in starts ends) paths
      row_off n = rw row.number (sym (here ∙ rw (le-leb _ _ (rw row.one at in_time), ← (rw row.number at is_due), ne_eqb _ _ (rw row.other at n))))

      pub rows_turn : end ≡ due → RowsLeft paths starts ends (k + 1)
      rows_turn e = record { left = here ∙ rw (le-leb _ _ (rw row.one at in_time), ← (rw row.number at is_due), eq-eqb _ _ (rw row.other at e)) }

  pub rows_done : length starts ≤ k → fine ≡ rows_verdict one_step 1 (rows_in starts ends) paths
  unfolding rows_verdict rows_in
  rows_done h = sym (w.left ∙ rw (drop_of_length-le starts {i = k} h))

-- ---- the T line

module _ (j : Job) (starts : List ℕ) (line : ℕ) (t : Three) {time : ℕ} (is_time : time ≡ routing_time one_step starts (paths j)) where
  totals_here : totals_verdict line j starts t ≡ must (eqb t.first time && eqb t.second (congestion j) && eqb t.third (dilation j)) 14 line
  unfolding totals_verdict delay_of
  totals_here = rw is_time

  pub time_off : (t.first ≡ time → ⊥) → refused 14 line ≡ totals_verdict line j starts t
  time_off n = sym (totals_here ∙ rw (ne_eqb _ _ n))

  module _ (same_time : t.first ≡ time) {c : ℕ} (is_c : c ≡ congestion j) where
    pub congestion_off : (t.second ≡ c → ⊥) → refused 14 line ≡ totals_verdict line j starts t
    congestion_off n = sym (totals_here ∙ rw (eq-eqb _ _ same_time, ← is_c, ne_eqb _ _ n))

    module _ (same_c : t.second ≡ c) {d : ℕ} (is_d : d ≡ dilation j) where
      pub dilation_off : (t.third ≡ d → ⊥) → refused 14 line ≡ totals_verdict line j starts t
      dilation_off n = sym (totals_here ∙ rw (eq-eqb _ _ same_time, ← is_c, eq-eqb _ _ same_c, ← is_d, ne_eqb _ _ n))

      pub totals_follow : t.third ≡ d → fine ≡ totals_verdict line j starts t
      totals_follow e = sym (totals_here ∙ rw (eq-eqb _ _ same_time, ← is_c, eq-eqb _ _ same_c, ← is_d, eq-eqb _ _ e))

-- ---- both together

length-rows_in : (starts ends : List ℕ) → length ends ≡ length starts → length (rows_in starts ends) ≡ length starts
unfolding rows_in
length-rows_in [] ends e = refl
length-rows_in (s ∷ ss) [] e = e
length-rows_in (s ∷ ss) (e ∷ es) c = ap suc (length-rows_in ss es (omega (arith, c)))

starts_of-rows_in : (starts ends : List ℕ) → length ends ≡ length starts → starts_of (rows_in starts ends) ≡ starts
unfolding rows_in
starts_of-rows_in [] ends e = refl
starts_of-rows_in (s ∷ ss) [] e = absurd (omega (arith, e))
starts_of-rows_in (s ∷ ss) (e ∷ es) c = ap (λ l. s ∷ l) (starts_of-rows_in ss es (omega (arith, c)))

-- a verdict before a value is the verdict on the value
then_fine : {A : Type 0} (v : Verdict) (a : A) → onward (v then is a) (λ value. fine) ≡ v
then_fine (is u) a = refl
then_fine (refused number place) a = refl

module _ (j : Job) (starts ends : List ℕ) (t : Three) where
  pub followed_refused : {number place : ℕ} → refused number place ≡ rows_verdict one_step 1 (rows_in starts ends) (paths j)
      → refused number place ≡ onward (followed j (rows_in starts ends) t) (λ starts. fine)
  unfolding followed delay_of
  followed_refused e = rw (← e)

  pub followed_totals : {u : Unit} → is u ≡ rows_verdict one_step 1 (rows_in starts ends) (paths j) → length ends ≡ length starts
      → {last : Verdict} → last ≡ totals_verdict (length starts + 1) j starts t → last ≡ onward (followed j (rows_in starts ends) t) (λ starts. fine)
  unfolding followed delay_of
  followed_totals d same e =
      let n : suc (length (rows_in starts ends)) ≡ length starts + 1 = omega (arith, length-rows_in starts ends same) in
      e ∙ sym (rw (← d, n, starts_of-rows_in starts ends same) (then_fine _ starts))
