-- From the parts to the plan's text, from accepted starts to what the writer's own functions need of them, and from what was
-- written to the answer.
use mathlib.Core.Path.{◌≡◌, sym, ◌∙◌}
use mathlib.Core.Bool.{Bool, true, false}
use mathlib.Core.List.{List, [], ◌∷◌}
use Prim.Native.Nat.{ℕ, ◌≤◌, ◌<◌}
use native.Mathlib.Nat.{zero-add}
use native.Mathlib.Omega.{arith}
use lib.Dec.{leb}
use lib.ListN.{length}
use lib.Seq.{sets-eq}
use borrow.Author.Tests.{le-leb, lt-leb, leb-true, leb-false}
use Rattle.std.specs.Prelude.{Ok, Err}
use Rattle.rules.specs.Sizes.{plan_most}
use Rattle.rules.specs.Network.{Job, paths}
use Rattle.rules.specs.Outcome.{is, refused, fine}
use Rattle.rules.specs.Tables.{tables}
use Rattle.rules.specs.Travel.{one_step, delay_of}
use Rattle.rules.specs.Counts.{link_count}
use Rattle.rules.specs.Bytes.{letter_t, line_text}
use Rattle.rules.specs.PlanText.{packet_lines, text_of_plan}
use Rattle.rules.specs.Answers.{started_verdict, in_room, lent_after, written}
use Rattle.theorems.specs.Jobs.{IsJob, IsStarted}
use Rattle.theorems.proofs.Accepted.{tables-fine-iff}
use Rattle.theorems.proofs.Started.{started_fine-iff, started_plan_length}
use Rattle.job.specs.declared.Refusal.{Refusal}
use Rattle.job.specs.declared.Refusal.TheVariants.{ShortRoom}
use Rattle.job.specs.Told.{refusal_of}
use Rattle.lines.specs.Put.{Put}
use Rattle.lines.proofs.Putting.{put_then}
use Rattle.plan_text.specs.HopsInLists.{Writable}
use Rattle.plan_text.specs.LastLine.{CountsOf}
use Rattle.plan_text.specs.declared.Counts.{Counts}
use Rattle.plan_text.specs.Told.{WrittenAs}
use Rattle.plan_text.proofs.Loads.{few_links, few_hops, hop_below}

-- ---- the text of a job by its parts

module _ {j : Job} {starts : List ℕ} {counts : Counts} (of : CountsOf j starts counts) where
  pub text_put : {before between after : List ℕ} {at next : ℕ} → Put before 0 (packet_lines one_step 0 starts (paths j)) between at
      → Put between at (line_text letter_t (counts.time ∷ counts.c ∷ counts.d ∷ [])) after next → Put before 0 (text_of_plan j starts) after next
  unfolding text_of_plan delay_of
  text_put p q = put_then p (rw (of.time_same, of.c_same, of.d_same) at q)

-- ---- whether the text fits

pub ample_room : (j : Job) (starts : List ℕ) {bytes : ℕ} → started_verdict j starts ≡ fine → plan_most ≤ bytes → true ≡ leb (length (text_of_plan j starts)) bytes
ample_room j starts {bytes} started ample =
    let fits : length (text_of_plan j starts) ≤ bytes = omega (arith, ample, started_plan_length j starts started) in
    sym (le-leb _ _ fits)

-- ---- the lists of a job

pub lists_writable : {j : Job} {starts : List ℕ} → IsJob j → length starts ≡ length j.stops → Writable (link_count j) j.stops j.hops starts
lists_writable {j} job count =
    let t : tables j ≡ fine = (tables-fine-iff j).1 job in
    record {
      rising = record { rise = job.stops_fit.rise };
      linked = record { few = few_hops j t; links = hop_below j t };
      few_links = few_links j t;
      few_packets = omega (arith, job.stops_count, job.few_packets);
      count = count;
    }

-- ---- the ways out

-- a refusal of the verdict
pub write_refused : (j : Job) (starts : List ℕ) (r : Refusal) → refusal_of r ≡ started_verdict j starts → (lent : List ℕ)
    → WrittenAs (written j starts (length lent)) (Err r) lent lent
unfolding written lent_after
write_refused j starts r same lent = record { bytes = rw (← same); room = rw (← same) }

-- with accepted starts
module _ (j : Job) (starts : List ℕ) (accepted : started_verdict j starts ≡ fine) where
  started : IsStarted j starts
  started = (started_fine-iff j starts).0 accepted

  pub started_tables : tables j ≡ fine
  started_tables = (tables-fine-iff j).1 started.job

  pub started_count : length starts ≡ length j.stops
  started_count = started.count ∙ sym started.job.stops_count

  written_short : (room : ℕ) → room < length (text_of_plan j starts) → written j starts room ≡ refused 10 0
  unfolding written in_room
  written_short room l = rw (accepted, lt-leb _ _ l)

  written_text : (room : ℕ) → length (text_of_plan j starts) ≤ room → written j starts room ≡ is (text_of_plan j starts)
  unfolding written in_room
  written_text room l = rw (accepted, le-leb _ _ l)

  -- by whether the text fits
  module _ (lent : List ℕ) {fit : Bool} (test : fit ≡ leb (length (text_of_plan j starts)) (length lent)) where
    pub write_short : fit ≡ false → WrittenAs (written j starts (length lent)) (Err ShortRoom) lent lent
    unfolding lent_after
    write_short out = let a = written_short (length lent) (leb-false _ _ (sym test ∙ out)) in record { bytes = rw a; room = rw a }

    pub write_filled : fit ≡ true → {after : List ℕ} {next : ℕ} → Put lent 0 (text_of_plan j starts) after next → WrittenAs (written j starts (length lent)) (Ok next) lent after
    unfolding lent_after
    write_filled inside p =
        let h : length (text_of_plan j starts) ≤ length lent = leb-true _ _ (sym test ∙ inside) in
        let a = written_text (length lent) h in
        record {
          bytes = rw (a, p.past, zero-add);
          room = rw a (p.stored ∙ sets-eq (text_of_plan j starts) lent 0 (omega arith) ∙ rw zero-add);
        }
