-- Texts written one after another: both together are written, and what is left of the whole after the first is the second.
use mathlib.Core.Path.{◌≡◌, sym, ap, ◌∙◌}
use mathlib.Core.List.{List, [], ◌∷◌, ◌++◌}
use Prim.Native.Nat.{ℕ, suc, ◌+◌, ◌/◌, ◌^◌, ◌≤◌, ◌<◌}
use native.Mathlib.Omega.{arith}
use lib.ListN.{length, get_or, drop, set, length-append, drop_of_length-le}
use lib.Seq.{sets, set-get_or}
use Rattle.counting.proofs.Places.{from_place}
use Rattle.rules.specs.Bytes.{tab, line_feed, decimal, fields_text, line_text}
use Rattle.theorems.proofs.Numbers.{decimal_small, decimal-more, decimal-length-le}
use Rattle.lines.specs.Put.{Put}

pub sets-append : (l : List ℕ) (at : ℕ) (xs ys : List ℕ) → sets l at (xs ++ ys) ≡ sets (sets l at xs) (at + length xs) ys
sets-append l at [] ys = let z : at + 0 ≡ at = omega arith in rw z
sets-append l at (x ∷ xs) ys = let z : at + suc (length xs) ≡ suc at + length xs = omega arith in rw z (sets-append (set l at x) (suc at) xs ys)

module _ {before between after xs ys : List ℕ} {at middle next : ℕ} where
  pub put_then : Put before at xs between middle → Put between middle ys after next → Put before at (xs ++ ys) after next
  put_then p q = record {
    stored = q.stored ∙ rw (p.stored, p.past) (sym (sets-append before at xs ys));
    past = omega (arith, p.past, q.past, length-append xs ys);
  }

  pub put_rest : Put before at (xs ++ ys) after next → Put before at xs between middle → Put between middle ys after next
  put_rest q p = record {
    stored = q.stored ∙ rw (p.stored, p.past) (sets-append before at xs ys);
    past = omega (arith, p.past, q.past, length-append xs ys);
  }

-- ---- a number

-- no more than nine digits stand in front of the last
pub front_short : (n : ℕ) → n < 2 ^ 32 → length (decimal (n / 10)) ≤ 9
front_short n h = decimal-length-le 8 (n / 10) (omega arith)

pub ruleset number_steps = (front_short, decimal_small, decimal-more, sets-append, length-append)

-- ---- a line

-- behind the letter and the numbers before the k-th, the fields of those from there on make the line
pub record FieldsLeft (before : List ℕ) (at letter : ℕ) (numbers room : List ℕ) (place k : ℕ) : Type 0 where
  pub rest : {after : List ℕ} {next : ℕ} → Put room place (fields_text (drop k numbers)) after next → Put before at (line_text letter numbers) after next

pub fields_start : {before room : List ℕ} {at letter place : ℕ} (numbers : List ℕ) → Put before at (letter ∷ []) room place
    → FieldsLeft before at letter numbers room place 0
unfolding line_text
fields_start numbers p = record { rest = λ q. put_then p q }

module _ {before : List ℕ} {at letter : ℕ} {numbers room : List ℕ} {place k : ℕ} (w : FieldsLeft before at letter numbers room place k) where
  pub fields_turn : {after : List ℕ} {next : ℕ} → k < length numbers → Put room place (tab ∷ decimal (get_or numbers k 0)) after next
      → FieldsLeft before at letter numbers after next (k + 1)
  unfolding fields_text
  fields_turn h p = record { rest = λ q. w.rest (rw (from_place numbers k h) (put_then p q)) }

  -- the line is that of the given numbers where those gone over are the same
  pub fields_done : {given after : List ℕ} {next : ℕ} → numbers ≡ given → length given ≤ k → Put room place (line_feed ∷ []) after next
      → Put before at (line_text letter given) after next
  unfolding fields_text
  fields_done e h p = rw (← e) (w.rest (rw (drop_of_length-le numbers {i = k} (omega (arith, h, ap length e))) p))

-- what is left when all but one step of them is done; a number that is stored in its own place changes nothing
pub ruleset line_steps = (fields_start, fields_turn, set-get_or)
