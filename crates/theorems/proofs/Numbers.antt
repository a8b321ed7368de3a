-- Numbers as written: the equations of `decimal`, how many digits there are, and that a field says a number exactly if it is
-- that number as written.
use mathlib.Core.Path.{◌≡◌, refl, sym, ap, ◌∙◌}
use mathlib.Core.Bool.{Bool, true, false, ◌&&◌}
use mathlib.Core.List.{List, [], ◌∷◌, ◌++◌, append-nil, append_assoc}
use mathlib.Core.Option.{Option, none, some}
use mathlib.Core.Logic.{◌↔◌}
use Prim.Native.Nat.{ℕ, zero, suc, ◌+◌, ◌-◌, ◌*◌, ◌/◌, ◌%◌, ◌^◌, ◌≤◌, ◌<◌}
use native.Mathlib.Omega.{arith}
use native.Mathlib.Nat.{pow-suc}
use native.Mathlib.Decide.{dec_lt}
use lib.Dec.{eqb, leb}
use lib.ListN.{length, length-append}
use lib.Seq.{append_snoc}
use borrow.Author.Tests.{lt-ltb, le-ltb, le-leb, leb-true, eqb-false, ne_eqb}
use Rattle.counting.specs.Count.{pick}
use Rattle.counting.proofs.Tests.{and_left, and_right}
use Rattle.counting.proofs.Places.{some_same, none_not_some}
use Rattle.rules.specs.Sizes.{number_most}
use Rattle.rules.specs.Bytes.{digits, decimal, value_after, number_of}

digits_small : (more n : ℕ) → n < 10 → digits more n ≡ (48 + n) ∷ []
unfolding digits
digits_small zero n h = refl
digits_small (suc more) n h = rw (lt-ltb n 10 h, digits)

digits_more : (more n : ℕ) → 10 ≤ n → digits (suc more) n ≡ digits more (n / 10) ++ ((48 + n % 10) ∷ [])
unfolding digits
digits_more more n h = rw (le-ltb n 10 h, digits)

-- the bound on how many digits come first does not matter, if it is n or more
digits_enough : (k j n : ℕ) → n ≤ k → n ≤ j → digits k n ≡ digits j n
digits_enough zero j n h g = digits_small zero n (omega arith) ∙ sym (digits_small j n (omega arith))
digits_enough (suc k) zero n h g = digits_small (suc k) n (omega arith) ∙ sym (digits_small zero n (omega arith))
digits_enough (suc k) (suc j) n h g =
    elim (dec_lt n 10) [
      | yes l ↦ digits_small (suc k) n l ∙ sym (digits_small (suc j) n l)
      | no l ↦ rw (digits_more k n (omega arith), digits_more j n (omega arith), digits_enough k j (n / 10) (omega arith) (omega arith))
    ]

pub decimal_small : (n : ℕ) → n < 10 → decimal n ≡ (48 + n) ∷ []
unfolding decimal
decimal_small n h = digits_small n n h

pub decimal-more : (n : ℕ) → 10 ≤ n → decimal n ≡ decimal (n / 10) ++ ((48 + n % 10) ∷ [])
unfolding decimal
decimal-more zero h = absurd (omega arith)
decimal-more (suc n) h = rw (digits_more n (suc n) h, digits_enough n (suc n / 10) (suc n / 10) (omega arith) (omega arith))

-- the same from the left: a number and one digit more
pub decimal_digit : (n d : ℕ) → 0 < n → d < 10 → decimal (n * 10 + d) ≡ decimal n ++ ((48 + d) ∷ [])
decimal_digit n d h l =
    let q : (n * 10 + d) / 10 ≡ n = omega arith in
    let r : (n * 10 + d) % 10 ≡ d = omega arith in
    decimal-more (n * 10 + d) (omega arith) ∙ rw (q, r)

-- what holds of one digit, and of a number if of its quotient by ten, holds of every number
module _ (P : ℕ → Type 0) (small : (n : ℕ) → n < 10 → P n) (more : (n : ℕ) → 10 ≤ n → P (n / 10) → P n) where
  below : (k n : ℕ) → n ≤ k → P n
  below zero n h = small n (omega arith)
  below (suc k) n h = elim (dec_lt n 10) [ yes l ↦ small n l | no l ↦ more n (omega arith) (below k (n / 10) (omega arith)) ]

  pub decimal_induction : (n : ℕ) → P n
  decimal_induction n = below n n (omega arith)

pub decimal-length-le : (k n : ℕ) → n < 10 ^ suc k → length (decimal n) ≤ suc k
decimal-length-le zero n h = omega (arith, ap length (decimal_small n h))
decimal-length-le (suc k) n h =
    elim (dec_lt n 10) [
      | yes l ↦ omega (arith, ap length (decimal_small n l))
      | no l ↦ omega (
        arith,
        ap length (decimal-more n (omega arith)),
        length-append (decimal (n / 10)) ((48 + n % 10) ∷ []),
        decimal-length-le k (n / 10) (omega (arith, pow-suc 10 (suc k))),
      )
    ]

-- one digit is read
value_digit : (n d m : ℕ) (bs : List ℕ) → d < 10 → n * 10 + d ≡ m → m ≤ number_most → value_after n ((48 + d) ∷ bs) ≡ value_after m bs
unfolding value_after
value_digit n d m bs h e l =
    let q : 48 + d - 48 ≡ d = omega arith in
    rw (q, e, le-leb 48 (48 + d) (omega arith), le-leb (48 + d) 57 (omega arith), le-leb m number_most l)

-- a number as written is read, and then what follows it
abbrev Reads : ℕ → Type 0
Reads n = (bs : List ℕ) → 0 < n → n ≤ number_most → number_of (decimal n ++ bs) ≡ value_after n bs

reads_small : (n : ℕ) → n < 10 → Reads n
unfolding number_of
reads_small n h [] l m = rw (decimal_small n h) (value_digit 0 n n [] h (omega arith) m)
reads_small n h (b ∷ bs) l m = rw (decimal_small n h, ne_eqb (48 + n) 48 (omega arith)) (value_digit 0 n n (b ∷ bs) h (omega arith) m)

reads_more : (n : ℕ) → 10 ≤ n → Reads (n / 10) → Reads n
reads_more n h ih bs l m =
    rw (decimal-more n h, append_assoc, ih ((48 + n % 10) ∷ bs) (omega arith) (omega arith))
    (value_digit (n / 10) (n % 10) n bs (omega arith) (omega arith) m)

pub number_decimal : (n : ℕ) → n ≤ number_most → number_of (decimal n) ≡ some n
unfolding number_of value_after
number_decimal zero h = rw (decimal_small 0 (omega arith))
number_decimal (suc n) h = rw (← append-nil (decimal (suc n))) (decimal_induction Reads reads_small reads_more (suc n) [] (omega arith) h)

picked : {A : Type 0} (t : Bool) (o : Option A) {a : A} → pick t o none ≡ some a → (t ≡ true) × (o ≡ some a)
picked true o e = (refl, e)
picked false o e = absurd (none_not_some e)

passed : {A : Type 0} (t : Bool) (o : Option A) {a : A} → pick t none o ≡ some a → (t ≡ false) × (o ≡ some a)
passed true o e = absurd (none_not_some e)
passed false o e = (refl, e)

-- where something is read, the first byte is a digit
record First (n b : ℕ) (bs : List ℕ) (m : ℕ) : Type 0 where
  digit : ℕ
  byte : b ≡ 48 + digit
  small : digit < 10
  fits : n * 10 + digit ≤ number_most
  rest : value_after (n * 10 + digit) bs ≡ some m

first : (n b : ℕ) (bs : List ℕ) {m : ℕ} → value_after n (b ∷ bs) ≡ some m → First n b bs m
unfolding value_after
first n b bs e =
    let (tests, rest) = picked (leb 48 b && leb b 57 && leb (n * 10 + (b - 48)) number_most) _ e in
    let both = and_left (leb 48 b && leb b 57) _ tests in
    let low = leb-true 48 b (and_left (leb 48 b) _ both) in
    let high = leb-true b 57 (and_right (leb 48 b) _ both) in
    record {
      digit = b - 48;
      byte = omega arith;
      small = omega arith;
      fits = leb-true _ _ (and_right (leb 48 b && leb b 57) _ tests);
      rest = rest;
    }

-- what is read after a number and makes another is the rest of the other as written
value_append : (n : ℕ) (bs : List ℕ) {m : ℕ} → 0 < n → n ≤ number_most → value_after n bs ≡ some m → (m ≤ number_most) × (decimal n ++ bs ≡ decimal m)
unfolding value_after
value_append n [] h l e = rw (← some_same e, append-nil (decimal n)) (l, refl)
value_append n (b ∷ bs) h l e =
    let f = first n b bs e in
    let r = value_append (n * 10 + f.digit) bs (omega arith) f.fits f.rest in
    (r.0, rw (f.byte, ← append_snoc (decimal n), ← decimal_digit n f.digit h f.small) r.1)

-- only a number as written is read
number_read : (f : List ℕ) {n : ℕ} → number_of f ≡ some n → (n ≤ number_most) × (f ≡ decimal n)
unfolding number_of value_after
number_read [] e = absurd (none_not_some e)
number_read (b ∷ []) {n} e =
    let f = first 0 b [] e in
    let q : 0 * 10 + f.digit ≡ n = some_same f.rest in
    let z : b ≡ 48 + n = omega arith in
    (omega arith, rw z (sym (decimal_small n (omega arith))))
number_read (b ∷ c ∷ bs) e =
    let (front, read) = passed (eqb b 48) _ e in
    let f = first 0 b (c ∷ bs) read in
    let n = 0 * 10 + f.digit in
    let z : b ≡ 48 + n = omega arith in
    let r = value_append n (c ∷ bs) (omega (arith, eqb-false b 48 front)) f.fits f.rest in
    (r.0, rw z (rw (decimal_small n (omega arith)) at r.1))

-- a field says a number exactly if it is that number as written
pub number_iff : (f : List ℕ) (n : ℕ) → (number_of f ≡ some n) ↔ ((n ≤ number_most) × (f ≡ decimal n))
number_iff f n = (number_read f, λ h. rw h.1 (number_decimal n h.0))
