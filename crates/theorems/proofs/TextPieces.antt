-- The pieces of bytes between the places of one byte: what they are, and that put together again they are the bytes.
use mathlib.Core.Path.{◌≡◌, refl, sym, ap, ◌∙◌}
use mathlib.Core.Bool.{Bool, true, false}
use mathlib.Core.List.{List, [], ◌∷◌, ◌++◌, head-eq_of_cons-eq, tail-eq_of_cons-eq, nil≢cons, cons≢nil}
use Prim.Native.Nat.{ℕ, suc, ◌+◌}
use native.Mathlib.Omega.{arith}
use lib.Dec.{eqb}
use lib.ListN.{length}
use borrow.Author.Tests.{eqb-true, eq-eqb}
use Rattle.counting.specs.Count.{pick, bit, among, occurs}
use Rattle.counting.proofs.Tests.{or_false_left, or_false_right}
use Rattle.rules.specs.Bytes.{onto, split}

-- bytes without the byte are one piece
pub split_free : (c : ℕ) (p : List ℕ) → among c p ≡ false → split c p ≡ p ∷ []
unfolding split
split_free c [] h = refl
split_free c (b ∷ p) h = rw (or_false_left (eqb b c) _ h, split_free c p (or_false_right (eqb b c) _ h))

-- and such bytes before the byte are the first piece
pub split_piece : (c : ℕ) (p bs : List ℕ) → among c p ≡ false → split c (p ++ c ∷ bs) ≡ p ∷ split c bs
unfolding split
split_piece c [] bs h = rw (eq-eqb c c refl)
split_piece c (b ∷ p) bs h = rw (or_false_left (eqb b c) _ h, split_piece c p bs (or_false_right (eqb b c) _ h))

-- there is a first piece
abbrev pub HasFirst : List (List ℕ) → Type 0
HasFirst pieces = (p : List ℕ) × (ps : List (List ℕ)) × (pieces ≡ p ∷ ps)

pub split_first : (c : ℕ) (bs : List ℕ) → HasFirst (split c bs)
unfolding split
split_first c [] = ([], [], refl)
split_first c (b ∷ bs) = go (eqb b c) (split_first c bs)
  where
    go : (t : Bool) → HasFirst (split c bs) → HasFirst (pick t ([] ∷ split c bs) (onto b (split c bs)))
    go true r = ([], split c bs, refl)
    go false (p, ps, e) = (b ∷ p, ps, rw e)

-- there is one piece more than such places
pub split_count : (c : ℕ) (bs : List ℕ) → length (split c bs) ≡ suc (occurs c bs)
unfolding split
split_count c [] = refl
split_count c (b ∷ bs) = go (eqb b c) (split c bs) (split_first c bs) (split_count c bs)
  where
    go : (t : Bool) (pieces : List (List ℕ)) → HasFirst pieces → length pieces ≡ suc (occurs c bs)
        → length (pick t ([] ∷ pieces) (onto b pieces)) ≡ suc (bit t + occurs c bs)
    go true pieces r l = omega (arith, l)
    go false pieces (p, ps, e) l = rw e (omega (arith, l, ap length e))

-- each piece after the byte
abbrev pub each_after : ℕ → List (List ℕ) → List ℕ
each_after c [] = []
each_after c (p ∷ ps) = c ∷ p ++ each_after c ps

pub split-joined : (c : ℕ) (bs p : List ℕ) (ps : List (List ℕ)) → split c bs ≡ p ∷ ps → bs ≡ p ++ each_after c ps
unfolding split
split-joined c [] p ps e = rw (← head-eq_of_cons-eq e, ← tail-eq_of_cons-eq e)
split-joined c (b ∷ bs) p ps e =
    let (q, qs, f) = split_first c bs in
    go (eqb b c) refl q qs (rw f at e) (split-joined c bs q qs f)
  where
    go : (t : Bool) → eqb b c ≡ t → (q : List ℕ) (qs : List (List ℕ)) → pick t ([] ∷ q ∷ qs) ((b ∷ q) ∷ qs) ≡ p ∷ ps → bs ≡ q ++ each_after c qs → b ∷ bs ≡ p ++ each_after c ps
    go true s q qs e r = rw (← head-eq_of_cons-eq e, ← tail-eq_of_cons-eq e, eqb-true b c s, r)
    go false s q qs e r = rw (← head-eq_of_cons-eq e, ← tail-eq_of_cons-eq e, r)

-- ---- pieces that are all ended

-- the pieces ps, each ended, and nothing left
abbrev pub Ended : List (List ℕ) → List (List ℕ)
Ended ps = ps ++ ([] ∷ [])

pub split_some : (c : ℕ) (bs : List ℕ) → split c bs ≡ [] → ⊥
split_some c bs e = cons≢nil (sym (split_first c bs).2 ∙ e)

pub split-append : (c : ℕ) (xs ys : List ℕ) (ps : List (List ℕ)) → split c xs ≡ Ended ps → split c (xs ++ ys) ≡ ps ++ split c ys
unfolding split
split-append c [] ys [] e = refl
split-append c [] ys (p ∷ ps) e = absurd (ended_some ps (tail-eq_of_cons-eq e))
  where
    ended_some : (ps : List (List ℕ)) → [] ≡ Ended ps → ⊥
    ended_some [] e = nil≢cons e
    ended_some (p ∷ ps) e = nil≢cons e
split-append c (b ∷ xs) ys ps e = go (eqb b c) (split c xs) refl ps e (split-append c xs ys)
  where
    go : (t : Bool) (qs : List (List ℕ)) → split c xs ≡ qs → (ps : List (List ℕ)) → pick t ([] ∷ qs) (onto b qs) ≡ Ended ps
        → ((ps : List (List ℕ)) → split c xs ≡ Ended ps → split c (xs ++ ys) ≡ ps ++ split c ys) → pick t ([] ∷ split c (xs ++ ys)) (onto b (split c (xs ++ ys))) ≡ ps ++ split c ys
    go true qs q [] e r = absurd (split_some c xs (q ∙ tail-eq_of_cons-eq e))
    go true qs q (p ∷ ps) e r = rw (r ps (q ∙ tail-eq_of_cons-eq e), ← head-eq_of_cons-eq e)
    go false [] q ps e r = absurd (split_some c xs q)
    go false (p ∷ qs) q [] e r = absurd (cons≢nil (head-eq_of_cons-eq e))
    go false (p ∷ qs) q (s ∷ ps) e r = rw (r (p ∷ ps) (q ∙ ap (λ r. p ∷ r) (tail-eq_of_cons-eq e)), ← head-eq_of_cons-eq e)

-- a byte ends the pieces of what stands before it
pub split-ended : (c : ℕ) (bs : List ℕ) → split c (bs ++ (c ∷ [])) ≡ Ended (split c bs)
unfolding split
split-ended c [] = rw (eq-eqb c c refl)
split-ended c (b ∷ bs) = rw (split-ended c bs) (go (eqb b c) (split_first c bs))
  where
    go : (t : Bool) → HasFirst (split c bs) → pick t ([] ∷ Ended (split c bs)) (onto b (Ended (split c bs))) ≡ Ended (pick t ([] ∷ split c bs) (onto b (split c bs)))
    go true r = refl
    go false (p, ps, e) = rw e
