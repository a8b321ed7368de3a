-- Lines: one made of a letter and numbers is read as these, and one that is not bad form is made of what it is read as.
use mathlib.Core.Path.{◌≡◌, refl, ◌∙◌}
use mathlib.Core.Bool.{Bool, true, false}
use mathlib.Core.List.Memᴰ.{head as here}
use mathlib.Core.List.Memᴰ.{tail as there}
use mathlib.Core.List.{List, [], ◌∷◌, ◌++◌, append-nil, append_assoc, map, Memᴰ}
use mathlib.Core.Option.{Option, none, some}
use Prim.Native.Nat.{ℕ, ◌+◌, ◌%◌, ◌≤◌, ◌<◌}
use native.Mathlib.Omega.{arith}
use borrow.Author.Tests.{eqb-true, ne_eqb}
use Rattle.counting.specs.Count.{pick, among}
use Rattle.counting.proofs.Tests.{any_append}
use Rattle.counting.proofs.Places.{some_same, none_not_some}
use Rattle.rules.specs.Sizes.{number_most}
use Rattle.rules.specs.Bytes.{tab, line_feed, letter_l, letter_n, letter_p, decimal, fields_text, line_text, number_of, cons_onto, numbers_of, split}
use Rattle.rules.specs.JobText.{Line, nodes, link, packet, bad, nodes_line, link_line, packet_line, letter_line, fields_line, line_of}
use Rattle.theorems.proofs.Numbers.{decimal_small, decimal-more, decimal_induction, number_decimal, number_iff}
use Rattle.theorems.proofs.TextPieces.{each_after, split_free, split_piece, split-joined}

-- ---- a line without its line feed

-- the letter, and each number after a tab
abbrev pub line_bytes : ℕ → List ℕ → List ℕ
line_bytes letter ns = letter ∷ each_after tab (map decimal ns)

fields_text_lem : (ns : List ℕ) → fields_text ns ≡ each_after tab (map decimal ns) ++ (line_feed ∷ [])
unfolding fields_text
fields_text_lem [] = refl
fields_text_lem (n ∷ ns) = rw (fields_text_lem ns, append_assoc)

pub line_text_lem : (letter : ℕ) (ns : List ℕ) → line_text letter ns ≡ line_bytes letter ns ++ (line_feed ∷ [])
unfolding line_text
line_text_lem letter ns = rw fields_text_lem

-- no byte below the digits, such as tab or line feed, stands in a number as written
decimal_free : (c : ℕ) → c < 48 → (n : ℕ) → among c (decimal n) ≡ false
decimal_free c h = decimal_induction (λ n. among c (decimal n) ≡ false)
    (λ n l. rw (decimal_small n l, ne_eqb (48 + n) c (omega arith)))
    (λ n l r. rw (decimal-more n l, any_append, r, ne_eqb (48 + n % 10) c (omega arith)))

fields_free : (ns : List ℕ) → among line_feed (each_after tab (map decimal ns)) ≡ false
fields_free [] = refl
fields_free (n ∷ ns) = rw (any_append, decimal_free line_feed (omega arith) n, fields_free ns)

-- ---- from letter and numbers to the line

-- no number is over what a field may say
abbrev pub Sayable : List ℕ → Type 0
Sayable ns = (n : ℕ) → Memᴰ n ns → n ≤ number_most

pub split_fields : (p ns : List ℕ) → among tab p ≡ false → split tab (p ++ each_after tab (map decimal ns)) ≡ p ∷ map decimal ns
split_fields p [] h = rw append-nil (split_free tab p h)
split_fields p (n ∷ ns) h = split_piece tab p _ h ∙ rw (split_fields (decimal n) ns (decimal_free tab (omega arith) n))

pub numbers-said : (ns : List ℕ) → Sayable ns → numbers_of (map decimal ns) ≡ some ns
unfolding numbers_of
numbers-said [] h = refl
numbers-said (n ∷ ns) h = rw (number_decimal n (h n (here refl)), numbers-said ns (λ m i. h m (there i)))

pub line_of-bytes : (letter : ℕ) (ns : List ℕ) → line_feed < letter → Sayable ns → line_of (line_bytes letter ns) ≡ letter_line letter (some ns)
unfolding line_of
line_of-bytes letter ns l h = rw (split_fields (letter ∷ []) ns (rw (ne_eqb letter tab (omega arith))), numbers-said ns h)

pub split_line : (letter : ℕ) (ns bs : List ℕ) → line_feed < letter → split line_feed (line_text letter ns ++ bs) ≡ line_bytes letter ns ∷ split line_feed bs
split_line letter ns bs l =
    rw (line_text_lem letter ns, append_assoc) (split_piece line_feed (line_bytes letter ns) bs (rw (ne_eqb letter line_feed (omega arith)) (fields_free ns)))

-- ---- from the line to letter and numbers

pub said-numbers : (fs : List (List ℕ)) (ns : List ℕ) → numbers_of fs ≡ some ns → fs ≡ map decimal ns
unfolding numbers_of
said-numbers [] ns e = rw (← some_same e)
said-numbers (f ∷ fs) ns e = go (number_of f) refl (numbers_of fs) refl e (said-numbers fs)
  where
    go : (a : Option ℕ) → number_of f ≡ a → (b : Option (List ℕ)) → numbers_of fs ≡ b → cons_onto a b ≡ some ns
        → ((ms : List ℕ) → numbers_of fs ≡ some ms → fs ≡ map decimal ms) → f ∷ fs ≡ map decimal ns
    go none p b q e r = absurd (none_not_some e)
    go (some n) p none q e r = absurd (none_not_some e)
    go (some n) p (some ms) q e r = rw (← some_same e, ((number_iff f n).0 p).1, r ms q)

-- the bytes, with a line feed, are the text of what the line says, unless it is bad form
abbrev pub Says : List ℕ → Line → Type 0
Says bytes (nodes n) = bytes ++ (line_feed ∷ []) ≡ line_text letter_n (n ∷ [])
Says bytes (link from to) = bytes ++ (line_feed ∷ []) ≡ line_text letter_l (from ∷ to ∷ [])
Says bytes (packet source path) = bytes ++ (line_feed ∷ []) ≡ line_text letter_p (source ∷ path)
Says bytes bad = Unit

module _ (bytes : List ℕ) where
  says_pick : (t : Bool) (l m : Line) → (t ≡ true → Says bytes l) → Says bytes m → Says bytes (pick t l m)
  says_pick true l m f h = f refl
  says_pick false l m f h = h

  says_nodes : (ns : List ℕ) → bytes ++ (line_feed ∷ []) ≡ line_text letter_n ns → Says bytes (nodes_line ns)
  says_nodes [] h = tt
  says_nodes (n ∷ []) h = h
  says_nodes (n ∷ m ∷ ns) h = tt

  says_link : (ns : List ℕ) → bytes ++ (line_feed ∷ []) ≡ line_text letter_l ns → Says bytes (link_line ns)
  says_link [] h = tt
  says_link (a ∷ []) h = tt
  says_link (a ∷ b ∷ []) h = h
  says_link (a ∷ b ∷ n ∷ ns) h = tt

  says_packet : (ns : List ℕ) → bytes ++ (line_feed ∷ []) ≡ line_text letter_p ns → Says bytes (packet_line ns)
  says_packet [] h = tt
  says_packet (source ∷ path) h = h

  says_letter : (letter : ℕ) (ns : List ℕ) → bytes ++ (line_feed ∷ []) ≡ line_text letter ns → Says bytes (letter_line letter (some ns))
  says_letter letter ns h =
      says_pick _ _ _ (λ e. says_nodes ns (rw (eqb-true letter letter_n e) at h))
      (says_pick _ _ _ (λ e. says_link ns (rw (eqb-true letter letter_l e) at h))
      (says_pick _ _ _ (λ e. says_packet ns (rw (eqb-true letter letter_p e) at h)) tt))

  pub line_says : Says bytes (line_of bytes)
  unfolding line_of
  line_says = by_fields (split tab bytes) refl
    where
      by_numbers : (letter : ℕ) (fs : List (List ℕ)) → bytes ≡ letter ∷ each_after tab fs → (o : Option (List ℕ)) → numbers_of fs ≡ o → Says bytes (letter_line letter o)
      by_numbers letter fs e none q = tt
      by_numbers letter fs e (some ns) q = says_letter letter ns (rw (line_text_lem letter ns, ← said-numbers fs ns q, e))

      by_fields : (fs : List (List ℕ)) → split tab bytes ≡ fs → Says bytes (fields_line fs)
      by_fields [] e = tt
      by_fields ([] ∷ fs) e = tt
      by_fields ((letter ∷ []) ∷ fs) e = by_numbers letter fs (split-joined tab bytes (letter ∷ []) fs e) (numbers_of fs) refl
      by_fields ((letter ∷ b ∷ bs) ∷ fs) e = tt
