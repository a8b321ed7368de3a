-- Document 01, "Job text and plan text": bytes, numbers and lines. A byte is a number; one that is no letter, digit, tab or
-- line feed in its place, be it over 255, is bad form like any other.
use Rattle.std.specs.Prelude.{Bool, true, false, ◌&&◌, List, [], ◌∷◌, ◌++◌, ℕ, zero, suc, ◌+◌, ◌-◌, ◌*◌, ◌/◌, ◌%◌, eqb, ltb, leb}
use Rattle.std.proofs.Math.Option.{Option, none, some}
use Rattle.counting.specs.Count.{pick}
use Rattle.rules.specs.Sizes.{number_most}

-- the bytes with a meaning of their own (C and Q by document 02, request 1); the digit d is the byte 48 + d
abbrev pub tab : ℕ
tab = 9

abbrev pub line_feed : ℕ
line_feed = 10

abbrev pub letter_c : ℕ
letter_c = 67

abbrev pub letter_l : ℕ
letter_l = 76

abbrev pub letter_n : ℕ
letter_n = 78

abbrev pub letter_p : ℕ
letter_p = 80

abbrev pub letter_q : ℕ
letter_q = 81

abbrev pub letter_r : ℕ
letter_r = 82

abbrev pub letter_s : ℕ
letter_s = 83

abbrev pub letter_t : ℕ
letter_t = 84

-- the digits of n: those of its quotient by ten, then that of the remainder; `more` bounds how many digits come first
unfoldable pub digits : ℕ → ℕ → List ℕ
digits zero n = (48 + n) ∷ []
digits (suc more) n = elim (ltb n 10) [ true ↦ (48 + n) ∷ [] | false ↦ digits more (n / 10) ++ ((48 + n % 10) ∷ []) ]

-- a number as written: no leading zero, and zero is one digit
unfoldable pub decimal : ℕ → List ℕ
decimal n = digits n n

-- each number after a tab, and at last the line feed
unfoldable pub fields_text : List ℕ → List ℕ
fields_text [] = line_feed ∷ []
fields_text (n ∷ ns) = tab ∷ decimal n ++ fields_text ns

-- a line: its letter and its numbers
unfoldable pub line_text : ℕ → List ℕ → List ℕ
line_text letter ns = letter ∷ fields_text ns

-- the number whose first digits are worth n and whose further digits are these; none where a byte is no digit or the number
-- grows too large
unfoldable pub value_after : ℕ → List ℕ → Option ℕ
value_after n [] = some n
value_after n (b ∷ bs) =
    pick (leb 48 b && leb b 57 && leb (n * 10 + (b - 48)) number_most) (value_after (n * 10 + (b - 48)) bs) none

-- the number that a field says: digits, at least one, and a zero in front only where it is the whole field
unfoldable pub number_of : List ℕ → Option ℕ
number_of [] = none
number_of (b ∷ []) = value_after 0 (b ∷ [])
number_of (b ∷ c ∷ bs) = pick (eqb b 48) none (value_after 0 (b ∷ c ∷ bs))

abbrev pub cons_onto : {A : Type 0} → Option A → Option (List A) → Option (List A)
cons_onto none ns = none
cons_onto (some n) none = none
cons_onto (some n) (some ns) = some (n ∷ ns)

-- the numbers that fields say, if each says one
unfoldable pub numbers_of : List (List ℕ) → Option (List ℕ)
numbers_of [] = some []
numbers_of (f ∷ fs) = cons_onto (number_of f) (numbers_of fs)

abbrev pub onto : ℕ → List (List ℕ) → List (List ℕ)
onto b [] = []
onto b (p ∷ ps) = (b ∷ p) ∷ ps

-- the pieces between the places of a byte: one piece more than such places
unfoldable pub split : ℕ → List ℕ → List (List ℕ)
split c [] = [] ∷ []
split c (b ∷ bs) = pick (eqb b c) ([] ∷ split c bs) (onto b (split c bs))

-- whether this byte stands first
abbrev pub begins : ℕ → List ℕ → Bool
begins c [] = false
begins c (b ∷ bs) = eqb b c
