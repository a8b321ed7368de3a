-- Laws of tests: of two tests, and of one over a list.
use mathlib.Core.Path.{◌≡◌, refl, sym, ◌∙◌}
use mathlib.Core.Bool.{Bool, true, false, ◌&&◌, ◌||◌, or-true, or_assoc, false≢true, true≢false}
use mathlib.Core.List.Memᴰ.{head as here}
use mathlib.Core.List.Memᴰ.{tail as there}
use mathlib.Core.List.{List, [], ◌∷◌, ◌++◌, Memᴰ}
use Prim.Native.Nat.{ℕ}
use lib.Dec.{eqb}
use borrow.Author.Tests.{eqb-true, eq-eqb}
use Rattle.counting.specs.Count.{any_of, among}

-- a test that is true and false proves anything
pub never_both : (b : Bool) → b ≡ true → b ≡ false → ⊥
never_both b p q = true≢false (sym p ∙ q)

pub false_of_not_true : (b : Bool) → (b ≡ true → ⊥) → b ≡ false
false_of_not_true true h = absurd (h refl)
false_of_not_true false h = refl

pub same_of_iff : (a b : Bool) → (a ≡ true → b ≡ true) → (b ≡ true → a ≡ true) → a ≡ b
same_of_iff true b f g = sym (f refl)
same_of_iff false true f g = g refl
same_of_iff false false f g = refl

pub eqb_comm : (a b : ℕ) → eqb a b ≡ eqb b a
eqb_comm a b = same_of_iff _ _ (λ e. eq-eqb b a (sym (eqb-true a b e))) (λ e. eq-eqb a b (sym (eqb-true b a e)))

pub and_left : (a b : Bool) → (a && b) ≡ true → a ≡ true
and_left true b e = refl
and_left false b e = e

pub and_right : (a b : Bool) → (a && b) ≡ true → b ≡ true
and_right true b e = e
and_right false b e = absurd (false≢true e)

pub and_intro : (a b : Bool) → a ≡ true → b ≡ true → (a && b) ≡ true
and_intro true b p q = q
and_intro false b p q = p

pub or_right : (a b : Bool) → b ≡ true → (a || b) ≡ true
or_right a b e = rw e (or-true a)

pub or_false_left : (a b : Bool) → (a || b) ≡ false → a ≡ false
or_false_left true b e = e
or_false_left false b e = refl

pub or_false_right : (a b : Bool) → (a || b) ≡ false → b ≡ false
or_false_right true b e = absurd (true≢false e)
or_false_right false b e = e

module _ {A : Type 0} where
  pub any_mem : (f : A → Bool) {x : A} {xs : List A} → Memᴰ x xs → f x ≡ true → any_of f xs ≡ true
  any_mem f (here p) e = rw (← p, e)
  any_mem f (there m) e = rw (any_mem f m e, or-true)

  pub any_true : (f : A → Bool) (xs : List A) → any_of f xs ≡ true → (x : A) × Memᴰ x xs × (f x ≡ true)
  any_true f [] e = absurd (false≢true e)
  any_true f (x ∷ xs) e = go (f x) refl e (any_true f xs)
    where
      go : (b : Bool) → f x ≡ b → (b || any_of f xs) ≡ true → (any_of f xs ≡ true → (y : A) × Memᴰ y xs × (f y ≡ true)) → (y : A) × Memᴰ y (x ∷ xs) × (f y ≡ true)
      go true q e r = (x, here refl, q)
      go false q e r = let t = r e in (t.0, there t.1, t.2)

  pub any_same : (f g : A → Bool) (xs : List A) → ((x : A) → f x ≡ g x) → any_of f xs ≡ any_of g xs
  any_same f g [] h = refl
  any_same f g (x ∷ xs) h = rw (h x, any_same f g xs h)

  pub any_append : (f : A → Bool) (xs ys : List A) → any_of f (xs ++ ys) ≡ (any_of f xs || any_of f ys)
  any_append f [] ys = refl
  any_append f (x ∷ xs) ys = rw (any_append f xs ys, or_assoc)

module _ {A B : Type 0} where
  any_turn : (f : A → B → Bool) (xs : List A) (ys : List B) → any_of (λ x. any_of (f x) ys) xs ≡ true → any_of (λ y. any_of (λ x. f x y) xs) ys ≡ true
  any_turn f xs ys e =
      let x = any_true (λ x. any_of (f x) ys) xs e in
      let y = any_true (f x.0) ys x.2 in
      any_mem (λ y. any_of (λ x. f x y) xs) y.1 (any_mem (λ z. f z y.0) x.1 y.2)

pub any_swap : {A B : Type 0} (f : A → B → Bool) (xs : List A) (ys : List B) → any_of (λ x. any_of (f x) ys) xs ≡ any_of (λ y. any_of (λ x. f x y) xs) ys
any_swap f xs ys = same_of_iff _ _ (any_turn f xs ys) (any_turn (λ y x. f x y) ys xs)

-- a number of the list fails a test that none of them passes
pub among_none : (f : ℕ → Bool) (ns : List ℕ) (n : ℕ) → any_of f ns ≡ false → among n ns ≡ true → f n ≡ false
among_none f ns n none e =
    let (m, is_in, same) = any_true (λ m. eqb m n) ns e in
    false_of_not_true (f n) (λ t. never_both (any_of f ns) (any_mem f is_in (rw (eqb-true m n same) t)) none)
