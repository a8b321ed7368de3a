-- An accepted text is the text of the job it says: each line that is read stands behind the text of the job read before it.
use mathlib.Core.Path.{◌≡◌, refl, sym}
use mathlib.Core.List.{List, [], ◌∷◌, ◌++◌, append-nil, append_assoc}
use Prim.Native.Nat.{ℕ, suc}
use native.Mathlib.Omega.{arith}
use lib.ListN.{length}
use Rattle.counting.proofs.Places.{nil_of_length}
use Rattle.rules.specs.Network.{Job, paths}
use Rattle.rules.specs.Outcome.{is}
use Rattle.rules.specs.Bytes.{line_feed, letter_l, letter_p, line_text, split}
use Rattle.rules.specs.JobText.{Line, nodes, link, packet, bad, line_of, with_link, with_packet, with_line, with_lines, first_line, all_lines, reading}
use Rattle.rules.specs.JobWritten.{lines_text, text_of_job}
use Rattle.theorems.proofs.Verdicts.{eqb_iff, is_iff, refused_not_is, onward_is, must-iff, then_iff}
use Rattle.theorems.specs.Jobs.{IsJob}
use Rattle.theorems.proofs.Accepted.{length-paths}
use Rattle.theorems.proofs.TextJobs.{goes_on_line, first_job, paths-with_packet}
use Rattle.theorems.proofs.TextPieces.{each_after, split-joined}
use Rattle.theorems.proofs.TextLines.{Says, line_says}
use Rattle.theorems.proofs.TextLinesAccepted.{reading_lines_iff, first_line-iff, link_line-iff, packet_line-iff}

-- ---- the text of a job with one line more

lines_text-snoc : {A B : Type 0} (line : A → B → List ℕ) (xs : List A) (ys : List B) (x : A) (y : B) → length xs ≡ length ys
    → lines_text line (xs ++ (x ∷ [])) (ys ++ (y ∷ [])) ≡ lines_text line xs ys ++ line x y
unfolding lines_text
lines_text-snoc line [] [] x y e = append-nil (line x y)
lines_text-snoc line [] (v ∷ ys) x y e = absurd (omega arith)
lines_text-snoc line (u ∷ xs) [] x y e = absurd (omega arith)
lines_text-snoc line (u ∷ xs) (v ∷ ys) x y e = rw (lines_text-snoc line xs ys x y (omega arith), append_assoc)

module _ (j : Job) (job : IsJob j) where
  -- a link comes only while there are no packets, so its line is the last
  text_with_link : (from to : ℕ) → length j.sources ≡ 0 → text_of_job (with_link j from to) ≡ text_of_job j ++ line_text letter_l (from ∷ to ∷ [])
  unfolding text_of_job lines_text
  text_with_link from to e =
      let ends : length j.network.origins ≡ length j.network.ends = sym job.ends_count in
      rw (← nil_of_length j.sources e) (simp (lines_text-snoc, append-nil, append_assoc))

  text_with_packet : (source : ℕ) (path : List ℕ) → text_of_job (with_packet j source path) ≡ text_of_job j ++ line_text letter_p (source ∷ path)
  unfolding text_of_job
  text_with_packet source path =
      let stops : length j.sources ≡ length (paths j) = omega (arith, length-paths j, job.stops_count) in
      simp (paths-with_packet j job source path, lines_text-snoc, append_assoc)

  text_with_line : (n : ℕ) (k : Job) (bytes : List ℕ) (l : Line) → Says bytes l → with_line n j l ≡ is k → text_of_job k ≡ text_of_job j ++ (bytes ++ (line_feed ∷ []))
  unfolding with_line
  text_with_line n k bytes (nodes m) s e = absurd (refused_not_is e)
  text_with_line n k bytes (link from to) s e =
      let (none, (room, (new, r))) = (link_line-iff n j from to k).0 e in
      rw (s, ← r) (text_with_link from to none)
  text_with_line n k bytes (packet source path) s e =
      let (room, (hops, (new, r))) = (packet_line-iff n j source path k).0 e in
      rw (s, ← r) (text_with_packet source path)
  text_with_line n k bytes bad s e = absurd (refused_not_is e)

-- ---- line by line

text_with_lines : (n : ℕ) (p : List ℕ) (ps : List (List ℕ)) (j k : Job) → IsJob j → with_lines n j p ps ≡ is k → text_of_job k ≡ text_of_job j ++ (p ++ each_after line_feed ps)
unfolding with_lines
text_with_lines n p [] j k h e =
    let (empty, same) = (then_iff (must-iff 2 n (eqb_iff (length p) 0)) is_iff).0 e in
    rw (same, ← nil_of_length p empty, append-nil)
text_with_lines n p (q ∷ ps) j k h e =
    let (i, a, b) = onward_is (with_line n j (line_of p)) (λ i. with_lines (suc n) i q ps) e in
    rw (text_with_lines (suc n) q ps i k (goes_on_line j h n (line_of p) i a).job b, text_with_line j h n i p (line_of p) (line_says p) a)
    (simp append_assoc)

text_of_first : (p : List ℕ) (l : Line) (j : Job) → Says p l → first_line l ≡ is j → text_of_job j ≡ p ++ (line_feed ∷ [])
unfolding text_of_job lines_text
text_of_first p (nodes n) j s e =
    let (size, same) = (first_line-iff n j).0 e in
    rw (s, ← same) (simp append-nil)
text_of_first p (link from to) j s e = absurd (refused_not_is e)
text_of_first p (packet source path) j s e = absurd (refused_not_is e)
text_of_first p bad j s e = absurd (refused_not_is e)

text_of_lines : (text : List ℕ) (ps : List (List ℕ)) (j : Job) → split line_feed text ≡ ps → all_lines ps ≡ is j → text ≡ text_of_job j
text_of_lines text [] j s e = absurd (refused_not_is e)
text_of_lines text (p ∷ []) j s e = absurd (refused_not_is e)
text_of_lines text (p ∷ q ∷ ps) j s e =
    let (i, a, b) = onward_is (first_line (line_of p)) (λ i. with_lines 2 i q ps) e in
    rw (
      split-joined line_feed text p (q ∷ ps) s,
      text_with_lines 2 q ps i j (first_job (line_of p) i a) b,
      text_of_first p (line_of p) i (line_says p) a,
      append_assoc,
    )

pub reading_text : (text : List ℕ) (j : Job) → reading text ≡ is j → text ≡ text_of_job j
reading_text text j e = text_of_lines text (split line_feed text) j refl ((reading_lines_iff text j).0 e).1
