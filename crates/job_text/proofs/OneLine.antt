-- A line by itself: what it says, from its letter and from the numbers behind that, and where it ends.
use mathlib.Core.Path.{◌≡◌, refl, sym, ap, ◌∙◌}
use mathlib.Core.Logic.{◌⊎◌, ⊎_elim}
use mathlib.Core.Bool.{Bool, true, false}
use mathlib.Core.List.{List, [], ◌∷◌, ◌++◌, append_assoc}
use mathlib.Core.Option.{Option, none, some}
use Prim.Native.Nat.{ℕ, suc, ◌+◌, ◌≤◌, ◌<◌}
use native.Mathlib.Omega.{arith}
use borrow.Author.Tests.{ne_eqb, lt-ltb, le-ltb}
use lib.Dec.{eqb, ltb}
use lib.ListN.{length, take, drop, set}
use lib.Seq.{length-take-le, take-set-le, take-append_seam, drop_at, sets, length-sets, sets-eq}
use Rattle.std.specs.Prelude.{Option as Answer, None, Some}
use Rattle.counting.specs.Count.{pick}
use Rattle.rules.specs.Bytes.{line_feed, letter_l, letter_n, letter_p, cons_onto, numbers_of, begins}
use Rattle.rules.specs.JobText.{Line, packet, bad, letter_line, fields_line, line_of}
use Rattle.lines.specs.declared.reading.Copied.{Copied}
use Rattle.lines.specs.Behind.{letter_of, line_rest, line_end, fields_behind, copied, leading}
use Rattle.lines.proofs.BehindPlaces.{SaidBehind}
use Rattle.lines.proofs.LetterAndFeed.{ByLetter, lettered, line_letter, letter_open, begun, fed, unfed, Unsaid, unsaid}
use Rattle.lines.proofs.CopyingNumbers.{all_said}
use Rattle.job_text.specs.declared.Line.{Line as Told}
use Rattle.job_text.specs.declared.Line.TheVariants.{Nodes, Link, Packet}
use Rattle.job_text.specs.declared.Found.{Found}
use Rattle.job_text.specs.LineInText.{ended, said_at, said_behind, path_of, line_told, PathStands, LineAs, FoundAs, ToldAs}

-- ---- a letter and the fields behind it

-- no line has none of the three letters, or nothing behind its letter
no_letter : (letter : ℕ) (o : Option (List ℕ)) → (letter ≡ letter_n → ⊥) → (letter ≡ letter_l → ⊥) → (letter ≡ letter_p → ⊥) → letter_line letter o ≡ bad
no_letter letter none n l p = refl
no_letter letter (some ns) n l p = rw (ne_eqb letter letter_n n, ne_eqb letter letter_l l, ne_eqb letter letter_p p)

no_fields : (letter : ℕ) → letter_line letter (some []) ≡ bad
no_fields letter = go (eqb letter letter_n) (eqb letter letter_l) (eqb letter letter_p)
  where
    go : (n l p : Bool) → pick n bad (pick l bad (pick p bad bad)) ≡ bad
    go true l p = refl
    go false true p = refl
    go false false true = refl
    go false false false = refl

-- a line is said by its letter and the numbers behind that
by_letter : ByLetter bad fields_line letter_line
by_letter = record {
  empty = λ fs. refl;
  one = λ b fs. refl;
  longer = λ b c bs fs. refl;
  alone = no_fields;
  part = λ b o h. no_letter b o (λ e. omega arith) (λ e. omega arith) (λ e. omega arith);
}

-- what is said by a letter, if there is one
abbrev said_by : Answer ℕ → Option (List ℕ) → Line
said_by = lettered bad letter_line

said_of : (text : List ℕ) (at : ℕ) → line_of (line_rest (drop at text)) ≡ said_by (letter_of (drop at text)) (numbers_of (fields_behind text (at + 1)))
unfolding line_of
said_of text at = line_letter by_letter text at

-- ---- whole and cut lines

module _ (text : List ℕ) (at : ℕ) (said : Line) where
  ended-whole : line_end text at < length text → ended text at said ≡ said
  ended-whole h = rw (lt-ltb _ _ h)

  ended_cut : length text ≤ line_end text at → ended text at said ≡ bad
  ended_cut h = rw (le-ltb _ _ h)

  ended_bad : said ≡ bad → ended text at said ≡ bad
  ended_bad e = rw e (go (ltb (line_end text at) (length text)))
    where
      go : (t : Bool) → pick t bad bad ≡ bad
      go true = refl
      go false = refl

-- the line that begins at a place, by its letter
module _ (text : List ℕ) (at : ℕ) where
  pub said_no_letter : letter_of (drop at text) ≡ None → said_at text at ≡ bad
  unfolding said_at
  said_no_letter e = ended_bad text at _ (said_of text at ∙ rw e)

  module _ {letter : ℕ} (e : Some letter ≡ letter_of (drop at text)) where
    pub said_other_letter : (letter ≡ letter_n → ⊥) → (letter ≡ letter_l → ⊥) → (letter ≡ letter_p → ⊥) → said_at text at ≡ bad
    unfolding said_at
    said_other_letter n l p = ended_bad text at _ (said_of text at ∙ rw (← e) (no_letter letter (numbers_of (fields_behind text (at + 1))) n l p))

    said_letter : line_end text at ≡ line_end text (at + 1) → said_at text at ≡ said_behind letter text (at + 1)
    unfolding said_at said_behind
    said_letter x = rw (said_of text at, ← e, x)

    -- what is told of the line behind its letter is told of the line
    module _ {l : ℕ} (k : letter ≡ l) (o : line_feed < l) where
      goes_on : line_end text at ≡ line_end text (at + 1)
      goes_on = (letter_open text at (sym e) (omega arith)).1

      pub told_by_letter : (told : Answer Found) (hops : List ℕ) (from : ℕ)
          → ToldAs (said_behind l text (at + 1)) text (at + 1) told hops from → ToldAs (said_at text at) text at told hops from
      told_by_letter None hops from f = said_letter goes_on ∙ rw k f
      told_by_letter (Some found) hops from f = rw (said_letter goes_on, k) (record { line = f.line; ends = f.ends ∙ sym goes_on; fed = f.fed })

-- ---- what is found

-- a line that is whole and says this
found-said : {said now : Line} {text : List ℕ} {at : ℕ} {told : Told} {end : ℕ} {hops : List ℕ} {from : ℕ} → ended text at said ≡ now
    → LineAs said told hops from → end ≡ line_end text at → end < length text → FoundAs now text at (record { line = told; end = end }) hops from
found-said {said} {now} {text} {at} w a e h =
    let s : now ≡ said = sym w ∙ ended-whole text at said (omega arith) in
    rw s (record { line = a; ends = e; fed = h })

-- ---- the three kinds of line

module _ (text : List ℕ) (at : ℕ) where
  pub no_first : (letter : ℕ) → Unsaid text at → said_behind letter text at ≡ bad
  unfolding said_behind
  no_first letter n = ended_bad text at _ (⊎_elim (λ e. rw e) (λ e. rw e (no_fields letter)) (unsaid text at n))

-- N: more than one number
more_nodes : (n : ℕ) (o : Option (List ℕ)) → (o ≡ some [] → ⊥) → letter_line letter_n (cons_onto (some n) o) ≡ bad
more_nodes n none h = refl
more_nodes n (some []) h = absurd (h refl)
more_nodes n (some (m ∷ ns)) h = refl

-- L: fewer than two numbers, or more
one_link : (a : ℕ) (o : Option (List ℕ)) → (o ≡ none) ⊎ (o ≡ some []) → letter_line letter_l (cons_onto (some a) o) ≡ bad
one_link a o h = ⊎_elim (λ e. rw e) (λ e. rw e) h

more_links : (a b : ℕ) (o : Option (List ℕ)) → (o ≡ some [] → ⊥) → letter_line letter_l (cons_onto (some a) (cons_onto (some b) o)) ≡ bad
more_links a b none h = refl
more_links a b (some []) h = absurd (h refl)
more_links a b (some (m ∷ ns)) h = refl

module _ {text : List ℕ} {at first first_end : ℕ} (f : SaidBehind text at first first_end) where
  -- N
  pub nodes_unfed : begins line_feed (drop first_end text) ≡ false → said_behind letter_n text at ≡ bad
  unfolding said_behind
  nodes_unfed u = ⊎_elim
      (λ h. ended_cut text at _ (omega (arith, f.same_line)))
      (λ h. ended_bad text at _ (rw f.numbers (more_nodes first (numbers_of (fields_behind text first_end)) h)))
      (unfed text first_end u)

  pub nodes_found : begins line_feed (drop first_end text) ≡ true → {hops : List ℕ} {from : ℕ}
      → FoundAs (said_behind letter_n text at) text at (record { line = Nodes first; end = first_end }) hops from
  unfolding said_behind numbers_of
  nodes_found u =
      let n = fed text first_end u in
      found-said (rw (f.numbers, n.fields)) (record { says = refl; stands = tt }) (sym (f.same_line ∙ n.ends)) (begun line_feed text first_end u).0

  -- L
  pub no_second : Unsaid text first_end → said_behind letter_l text at ≡ bad
  unfolding said_behind
  no_second n = ended_bad text at _ (rw f.numbers (one_link first (numbers_of (fields_behind text first_end)) (unsaid text first_end n)))

  module _ {second second_end : ℕ} (s : SaidBehind text first_end second second_end) where
    pub link_unfed : begins line_feed (drop second_end text) ≡ false → said_behind letter_l text at ≡ bad
    unfolding said_behind
    link_unfed u = ⊎_elim
        (λ h. ended_cut text at _ (omega (arith, f.same_line, s.same_line)))
        (λ h. ended_bad text at _ (rw (f.numbers, s.numbers) (more_links first second (numbers_of (fields_behind text second_end)) h)))
        (unfed text second_end u)

    pub link_found : begins line_feed (drop second_end text) ≡ true → {hops : List ℕ} {from : ℕ}
        → FoundAs (said_behind letter_l text at) text at (record { line = Link first second; end = second_end }) hops from
    unfolding said_behind numbers_of
    link_found u =
        let n = fed text second_end u in
        found-said (rw (f.numbers, s.numbers, n.fields)) (record { says = refl; stands = tt }) (sym (f.same_line ∙ s.same_line ∙ n.ends)) (begun line_feed text second_end u).0

-- ---- the path of a packet

-- what stands before a place stays
sets-before : (vs list : List ℕ) (n i : ℕ) → n ≤ i → take n (sets list i vs) ≡ take n list
sets-before [] list n i h = refl
sets-before (v ∷ vs) list n i h = sets-before vs (set list i v) n (suc i) (omega arith) ∙ take-set-le n list i v h

pub stays : (text list : List ℕ) (at from : ℕ) {after : List ℕ} → after ≡ sets list from (leading (fields_behind text at)) → take from after ≡ take from list
stays text list at from e = rw e (sets-before (leading (fields_behind text at)) list from from (omega arith))

-- and what is stored stands there, if there is room for it
path_stands : (path hops : List ℕ) (from : ℕ) {count : ℕ} → count ≡ length path → PathStands count (sets hops from path) from path
path_stands path hops from {count} e = record {
  many = e;
  here = λ h. (
      let r : from + length path ≤ length hops = omega (arith, h, length-sets hops from path) in
      let f : length (take from hops) ≡ from = length-take-le from hops (omega arith) in
      rw (e, sets-eq path hops from r, append_assoc, drop_at (take from hops) (path ++ drop (from + length path) hops) from f, take-append_seam));
}

-- what was copied
copied_some : (o : Option (List ℕ)) (stop : ℕ) {path : Copied} → copied o stop ≡ Some path → (ns : List ℕ) × (o ≡ some ns) × (path.count ≡ length ns) × (path.end ≡ stop)
copied_some none stop e = absurd cc
copied_some (some ns) stop {path} e = let w : record { count = length ns; end = stop } ≡ path = cc in (ns, refl, sym (ap (λ p. p.count) w), sym (ap (λ p. p.end) w))

copied_none : (o : Option (List ℕ)) (stop : ℕ) → copied o stop ≡ None → o ≡ none
copied_none none stop e = refl
copied_none (some ns) stop e = absurd cc

module _ {text : List ℕ} {at source path_from : ℕ} (f : SaidBehind text at source path_from) where
  abbrev path : Option (List ℕ)
  path = numbers_of (fields_behind text path_from)

  pub no_path : copied path (line_end text path_from) ≡ None → said_behind letter_p text at ≡ bad
  unfolding said_behind
  no_path e = ended_bad text at _ (rw (f.numbers, copied_none path (line_end text path_from) e))

  packet_said : (ns : List ℕ) → path ≡ some ns → {count end : ℕ} → count ≡ length ns → end ≡ line_end text path_from → end < length text
      → (hops : List ℕ) {after : List ℕ} {from : ℕ} → after ≡ sets hops from (leading (fields_behind text path_from))
      → FoundAs (said_behind letter_p text at) text at (record { line = Packet source count; end = end }) after from
  unfolding said_behind
  packet_said ns o k s h hops {after} {from} put =
      let stored : after ≡ sets hops from ns = put ∙ ap (sets hops from) (all_said (fields_behind text path_from) o) in
      found-said {said = packet source ns} (rw (f.numbers, o)) (record { says = refl; stands = rw stored (path_stands ns hops from k) }) (s ∙ sym f.same_line) h

  module _ {count end : ℕ} (e : copied path (line_end text path_from) ≡ Some (record { count = count; end = end })) where
    pub packet_cut : length text ≤ end → said_behind letter_p text at ≡ bad
    unfolding said_behind
    packet_cut h =
        let (ns, o, k, s) = copied_some path (line_end text path_from) e in
        ended_cut text at _ (omega (arith, f.same_line, s))

    pub packet_found : end < length text → (hops : List ℕ) {after : List ℕ} {from : ℕ} → after ≡ sets hops from (leading (fields_behind text path_from))
        → FoundAs (said_behind letter_p text at) text at (record { line = Packet source count; end = end }) after from
    packet_found h hops put =
        let (ns, o, k, s) = copied_some path (line_end text path_from) e in
        packet_said ns o k s h hops put

-- ---- what was told of a line

module _ {said : Line} {told : Told} {hops : List ℕ} {from : ℕ} (a : LineAs said told hops from) where
  pub told_line : {t : Told} → told ≡ t → said ≡ line_told (path_of said) t
  told_line d = sym a.says ∙ ap (line_told (path_of said)) d

  pub told_from : {place : ℕ} → from ≡ place → LineAs said told hops place
  told_from e = rw (← e) a
