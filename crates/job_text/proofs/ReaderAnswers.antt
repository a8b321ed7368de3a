-- The reader's three answers: the text is too long, a list too short, or the lines are read into the lists.
use mathlib.Core.Path.{◌≡◌, refl}
use mathlib.Core.Bool.{true, false, ◌&&◌}
use mathlib.Core.List.{List}
use Prim.Native.Nat.{ℕ, ◌≤◌, ◌<◌}
use borrow.Author.Tests.{leb-true, le-leb, lt-leb}
use lib.Dec.{leb}
use lib.ListN.{length}
use Rattle.counting.proofs.Tests.{and_left, and_right}
use Rattle.std.specs.Prelude.{Err}
use Rattle.rules.specs.Sizes.{text_most, links_most, packets_most, hops_most}
use Rattle.rules.specs.Outcome.{refused}
use Rattle.rules.specs.Bytes.{line_feed, split}
use Rattle.rules.specs.JobText.{all_lines, reading}
use Rattle.job.specs.declared.Refusal.TheVariants.{TextTooLong, ShortRoom}
use Rattle.job_text.specs.Told.{Lists, roomy, read_in, ReadAs}
use Rattle.job_text.specs.SoFar.{Room}

pub room_of : (l : Lists) → roomy l ≡ true → Room l
room_of l h =
    let a = leb links_most (length l.origins) in
    let b = leb links_most (length l.ends) in
    let c = leb packets_most (length l.sources) in
    let d = leb packets_most (length l.stops) in
    let abcd = and_left (a && b && c && d) (leb hops_most (length l.hops)) h in
    let abc = and_left (a && b && c) d abcd in
    let ab = and_left (a && b) c abc in
    record {
      origins = leb-true _ _ (and_left a b ab);
      ends = leb-true _ _ (and_right a b ab);
      sources = leb-true _ _ (and_right (a && b) c abc);
      stops = leb-true _ _ (and_right (a && b && c) d abcd);
      hops = leb-true _ _ (and_right (a && b && c && d) (leb hops_most (length l.hops)) h);
    }

module _ (text : List ℕ) (lent : Lists) where
  pub too_long : text_most < length text → read_in text lent ≡ refused 1 0
  unfolding read_in
  too_long h = rw (lt-leb (length text) text_most)

  pub too_short : length text ≤ text_most → roomy lent ≡ false → read_in text lent ≡ refused 10 0
  unfolding read_in
  too_short h r = rw (le-leb (length text) text_most, r)

  pub taken_up : length text ≤ text_most → roomy lent ≡ true → read_in text lent ≡ all_lines (split line_feed text)
  unfolding read_in reading
  taken_up h r = rw (le-leb (length text) text_most, r)

-- 1 and 10 leave the lists as they are
pub text_too_long : (lent : Lists) → ReadAs (refused 1 0) (Err TextTooLong) lent lent
text_too_long lent = record { answer = refl; lists = refl }

pub short_room : (lent : Lists) → ReadAs (refused 10 0) (Err ShortRoom) lent lent
short_room lent = record { answer = refl; lists = refl }
