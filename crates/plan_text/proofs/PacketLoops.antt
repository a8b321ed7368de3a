-- The loop over the packets' lines: what the packets from the k-th on still add to what is written, at a turn and after the last.
use mathlib.Core.Path.{◌≡◌, sym, ◌∙◌}
use mathlib.Core.List.{List, [], ◌∷◌}
use Prim.Native.Nat.{ℕ, ◌+◌, ◌*◌, ◌≤◌, ◌<◌}
use native.Mathlib.Numerals.{add-one}
use native.Mathlib.Omega.{arith}
use lib.ListN.{length, get_or, drop, drop_of_length-le}
use lib.Seq.{sets, drop-cons}
use Rattle.rules.specs.Travel.{one_step}
use Rattle.rules.specs.Counts.{end_of}
use Rattle.rules.specs.Bytes.{letter_s, line_text}
use Rattle.rules.specs.PlanText.{packet_lines}
use Rattle.counting.proofs.Places.{from_place}
use Rattle.lines.specs.Put.{Put, longest_line}
use Rattle.lines.proofs.Putting.{put_rest}

-- with k lines written, those from the k-th on are what is left of the lines from the first place on
pub record LinesLeft (starts : List ℕ) (paths : List (List ℕ)) (before room : List ℕ) (at k : ℕ) : Type 0 where
  pub low : at ≤ longest_line 3 * k
  pub same : length room ≡ length before
  pub left : Put room at (packet_lines one_step k (drop k starts) (drop k paths)) (sets before 0 (packet_lines one_step 0 starts paths))
      (length (packet_lines one_step 0 starts paths))

module _ {starts : List ℕ} {paths : List (List ℕ)} {before room : List ℕ} {at k : ℕ} (w : LinesLeft starts paths before room at k)
    (same : length paths ≡ length starts) where
  pub lines_turn : {after : List ℕ} {end next : ℕ} → k < length starts → end ≡ end_of one_step (get_or starts k 0) (get_or paths k [])
      → Put room at (line_text letter_s (k ∷ get_or starts k 0 ∷ end ∷ [])) after next → next ≤ at + longest_line 3 → length after ≡ length room
      → LinesLeft starts paths before after next (k + 1)
  unfolding packet_lines
  lines_turn h e p n l =
      let on : k < length paths = omega arith in
      record {
        low = omega (arith, w.low);
        same = l ∙ w.same;
        left = put_rest (rw (drop-cons paths k [] on, from_place starts k h, ← e, ← add-one k) at w.left) p;
      }

  pub lines_done : length starts ≤ k → Put before 0 (packet_lines one_step 0 starts paths) room at
  unfolding packet_lines
  lines_done h =
      let p = rw (drop_of_length-le starts {i = k} h) at w.left in
      record { stored = sym p.stored; past = omega (arith, p.past) }
