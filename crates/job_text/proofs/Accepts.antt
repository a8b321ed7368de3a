-- What the reader accepts stands in the first places of its lists, which hold it, and the tables accept it. Lists that have their sizes are
-- never too short.
use mathlib.Core.Path.{◌≡◌, refl, sym, ap, ◌∙◌}
use mathlib.Core.Bool.{Bool, true, false}
use mathlib.Core.List.{List}
use Prim.Native.Nat.{ℕ, ◌-◌, ◌≤◌}
use native.Mathlib.Omega.{arith}
use lib.Dec.{leb}
use lib.ListN.{length, take, replicate, length-append, length-replicate}
use lib.Seq.{take-append_seam}
use Rattle.std.specs.Prelude.{Result, Ok}
use Rattle.rules.specs.Sizes.{text_most, links_most, packets_most, hops_most}
use Rattle.rules.specs.Network.{Job}
use Rattle.rules.specs.Outcome.{Outcome, is, fine, must, ◌then◌}
use Rattle.rules.specs.Tables.{tables}
use Rattle.rules.specs.Bytes.{line_feed, split}
use Rattle.rules.specs.JobText.{reading, all_lines}
use Rattle.theorems.proofs.Verdicts.{is_iff, onward_is, then_is_iff}
use Rattle.theorems.proofs.TextJobs.{reading_job, reading_accepted}
use Rattle.job.specs.declared.Job.{Job as Counts}
use Rattle.job.specs.declared.Refusal.{Refusal}
use Rattle.job_text.specs.Told.{Lists, lists, room_for, roomy, read_in, filled, counts_of, ReadAs}
use Rattle.job_text.specs.SoFar.{so_far}

-- the job's own stands in front
take-filled : (xs lent : List ℕ) {n : ℕ} → n ≡ length xs → take n (filled xs lent) ≡ xs
unfolding filled
take-filled xs lent e = rw (e, take-append_seam)

read_of : (text : List ℕ) (lent : Lists) (j : Job) → read_in text lent ≡ is j → reading text ≡ is j
unfolding read_in
read_of text lent j e = ((then_is_iff (must (roomy lent) 10 0) (reading text) j).0 ((then_is_iff (must (leb (length text) text_most) 1 0) _ j).0 e).1).1

module _ (text : List ℕ) {lent after : Lists} {counts : Counts} (r : ReadAs (read_in text lent) (Ok counts) lent after) where
  stands : (j : Job) → read_in text lent ≡ is j → counts_of j ≡ counts → read_in text lent ≡ is (so_far counts after)
  stands j o e =
      let f = rw o at r in
      let a = reading_job text j (read_of text lent j o) in
      o
      ∙ rw (
        ← e,
        f.lists,
        take-filled j.network.origins lent.origins refl,
        take-filled j.network.ends lent.ends (sym a.ends_count),
        take-filled j.sources lent.sources refl,
        take-filled j.stops lent.stops (sym a.stops_count),
        take-filled j.hops lent.hops refl,
      )

  -- the answer is the job in the first places
  pub read_first : read_in text lent ≡ is (so_far counts after)
  read_first =
      let (j, o, e) = onward_is (read_in text lent) (λ j. is (counts_of j)) (sym r.answer) in
      stands j o (is_iff.0 e)

  -- which is as large as is counted
  pub read_counts : counts_of (so_far counts after) ≡ counts
  read_counts = sym (is_iff.0 (rw read_first at r.answer))

  -- the text says that job
  pub read_stands : reading text ≡ is (so_far counts after)
  read_stands = read_of text lent (so_far counts after) read_first

  pub read_accepted : tables (so_far counts after) ≡ fine
  read_accepted = reading_accepted text (so_far counts after) read_stands

-- ---- the places of what is read

-- a list with others behind it has its places
filled_holds : (xs lent ys : List ℕ) {n : ℕ} → ys ≡ filled xs lent → n ≡ length xs → n ≤ length ys
unfolding filled
filled_holds xs lent ys e f = rw e (omega (arith, f, length-append xs (replicate (length lent - length xs) 0)))

-- the lists have as many places as are counted
pub record Holds (counts : Counts) (l : Lists) : Type 0 where
  pub origins : counts.links ≤ length l.origins
  pub ends : counts.links ≤ length l.ends
  pub sources : counts.packets ≤ length l.sources
  pub stops : counts.packets ≤ length l.stops
  pub hops : counts.hops ≤ length l.hops

pub read_holds : (text : List ℕ) {lent after : Lists} {told : Result Counts Refusal} {counts : Counts} → told ≡ Ok counts → ReadAs (read_in text lent) told lent after → Holds counts after
read_holds text {lent} {after} {counts = counts} t a =
    let read : ReadAs (read_in text lent) (Ok counts) lent after = rw t at a in
    let (j, o, e) = onward_is (read_in text lent) (λ j. is (counts_of j)) (sym read.answer) in
    let f = rw o at read in
    let c = is_iff.0 e in
    let accepted = reading_job text j (read_of text lent j o) in
    record {
      origins = filled_holds j.network.origins lent.origins _ (ap (λ l. l.origins) f.lists) (ap (λ c. c.links) (sym c));
      ends = filled_holds j.network.ends lent.ends _ (ap (λ l. l.ends) f.lists) (ap (λ c. c.links) (sym c) ∙ sym accepted.ends_count);
      sources = filled_holds j.sources lent.sources _ (ap (λ l. l.sources) f.lists) (ap (λ c. c.packets) (sym c));
      stops = filled_holds j.stops lent.stops _ (ap (λ l. l.stops) f.lists) (ap (λ c. c.packets) (sym c) ∙ sym accepted.stops_count);
      hops = filled_holds j.hops lent.hops _ (ap (λ l. l.hops) f.lists) (ap (λ c. c.hops) (sym c));
    }

pub counted : {n m k : ℕ} → n ≡ m → m ≤ k → n ≤ k
counted e l = omega (arith, e, l)

-- ---- lists that have their sizes

-- they are never refused
pub read_in_lem : (text : List ℕ) (lent : Lists) → roomy lent ≡ true → read_in text lent ≡ reading text
unfolding read_in reading
read_in_lem text lent h = rw h (go (leb (length text) text_most) (all_lines (split line_feed text)))
  where
    go : (short : Bool) (o : Outcome Job) → (must short 1 0 then must true 10 0 then must short 1 0 then o) ≡ (must short 1 0 then o)
    go true o = refl
    go false o = refl

-- arrays of their sizes
pub roomy_arrays : roomy (lists (replicate links_most 0) (replicate links_most 0) (replicate packets_most 0) (replicate packets_most 0) (replicate hops_most 0)) ≡ true
roomy_arrays = sized (length-replicate {A = ℕ} links_most 0) (length-replicate {A = ℕ} packets_most 0) (length-replicate {A = ℕ} hops_most 0)
  where
    sized : {links packets hops : ℕ} → links ≡ links_most → packets ≡ packets_most → hops ≡ hops_most → room_for links links packets packets hops ≡ true
    sized l p h = rw (l, p, h) refl
