-- Numbers that stand in a list once at most.
use mathlib.Core.Path.{◌≡◌, refl, sym, ap, ◌∙◌}
use mathlib.Core.Bool.{Bool, true, false}
use mathlib.Core.List.{List, [], ◌∷◌, ◌++◌}
use mathlib.Core.Logic.{◌⊎◌, inl, inr}
use mathlib.Core.Option.{Option, some}
use Prim.Native.Nat.{ℕ, suc, ◌+◌, ◌≤◌}
use native.Mathlib.Omega.{arith}
use native.Mathlib.Nat.{suc_inj}
use lib.Dec.{eqb}
use lib.ListN.{length, get_elem?}
use borrow.Author.Tests.{eqb-true, eq-eqb}
use Rattle.counting.specs.Count.{among, occurs, bit}
use Rattle.counting.proofs.Tests.{any_mem, any_true, false_of_not_true, never_both}
use Rattle.counting.proofs.Sums.{sum_le_any}
use Rattle.counting.proofs.Places.{at_below, at_mem, mem_at, at_append-left, at_append_seam, at_snoc}

-- no number stands at two places
abbrev pub Distinct : List ℕ → Type 0
Distinct ns = (p q n : ℕ) → get_elem? ns p ≡ some n → get_elem? ns q ≡ some n → p ≡ q

-- what is among the numbers stands at a place, and the other way round
pub among_at : (n : ℕ) (ns : List ℕ) → among n ns ≡ true → (i : ℕ) × (get_elem? ns i ≡ some n)
among_at n ns e =
    let (m, there, same) = any_true (λ m. eqb m n) ns e in
    let (i, at) = mem_at there in
    (i, at ∙ ap {B = Option ℕ} some (eqb-true m n same))

pub at_among : (n : ℕ) (ns : List ℕ) (i : ℕ) → get_elem? ns i ≡ some n → among n ns ≡ true
at_among n ns i e = any_mem (λ m. eqb m n) (at_mem ns i e) (eq-eqb n n refl)

pub distinct_snoc : (ns : List ℕ) (n : ℕ) → Distinct ns → among n ns ≡ false → Distinct (ns ++ (n ∷ []))
distinct_snoc ns n d new p q m a b = go (at_snoc ns n p a) (at_snoc ns n q b)
  where
    old : (i : ℕ) → get_elem? ns i ≡ some m → n ≡ m → ⊥
    old i c e = never_both (among n ns) (at_among n ns i (c ∙ ap {B = Option ℕ} some (sym e))) new

    go : (get_elem? ns p ≡ some m) ⊎ ((p ≡ length ns) × (n ≡ m)) → (get_elem? ns q ≡ some m) ⊎ ((q ≡ length ns) × (n ≡ m)) → p ≡ q
    go (inl a) (inl b) = d p q m a b
    go (inl a) (inr b) = absurd (old p a b.1)
    go (inr a) (inl b) = absurd (old q b a.1)
    go (inr a) (inr b) = a.0 ∙ sym b.0

-- what follows is not among what goes before
pub distinct_new : (ns : List ℕ) (n : ℕ) (ms : List ℕ) → Distinct (ns ++ n ∷ ms) → among n ns ≡ false
distinct_new ns n ms d = false_of_not_true (among n ns) twice
  where
    twice : among n ns ≡ true → ⊥
    twice h =
        let (i, e) = among_at n ns h in
        let l = at_below ns i e in
        omega (arith, d i (length ns) n (at_append-left ns (n ∷ ms) i l ∙ e) (at_append_seam ns n ms))

pub distinct_tail : (n : ℕ) (ns : List ℕ) → Distinct (n ∷ ns) → Distinct ns
distinct_tail n ns d p q m a b = suc_inj (d (suc p) (suc q) m a b)

pub distinct_occurs : (ns : List ℕ) → Distinct ns → (n : ℕ) → occurs n ns ≤ 1
distinct_occurs [] d n = omega arith
distinct_occurs (m ∷ ns) d n = go (eqb m n) refl (distinct_occurs ns (distinct_tail m ns d) n)
  where
    go : (t : Bool) → eqb m n ≡ t → occurs n ns ≤ 1 → bit t + occurs n ns ≤ 1
    go false e r = omega arith
    go true e r = omega (arith, sum_le_any (λ k. eqb k n) ns r, ap bit (false_of_not_true (among n ns) absent))
      where
        absent : among n ns ≡ true → ⊥
        absent h = let (i, at) = among_at n ns h in omega (arith, d 0 (suc i) n (ap {B = Option ℕ} some (eqb-true m n e)) at)
