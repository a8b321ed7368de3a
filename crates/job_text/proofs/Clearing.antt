-- What the lists hold in the end: the job, or nothing, and then zeros.
use mathlib.Core.Path.{◌≡◌, refl, sym, ap, ◌∙◌}
use mathlib.Core.Bool.{false, ◌||◌}
use mathlib.Core.List.{List}
use Prim.Native.Nat.{ℕ}
use lib.Dec.{eqb}
use lib.ListN.{length, take}
use Rattle.counting.proofs.Tests.{among_none}
use Rattle.std.specs.Prelude.{Result, Ok, Err}
use Rattle.rules.specs.Network.{Job}
use Rattle.rules.specs.Outcome.{Outcome, is}
use Rattle.theorems.specs.TextNumbers.{line_numbers, RefusedBy}
use Rattle.job.specs.declared.Job.{Job as Counts}
use Rattle.job.specs.declared.Refusal.{Refusal}
use Rattle.job.specs.Told.{number_place}
use Rattle.job_text.specs.Told.{Lists, lists, SameLengths, filled, counts_of, ReadAs}
use Rattle.job_text.specs.SoFar.{so_far, Room, Within, Took, Fronts, kept_of}
use Rattle.job_text.proofs.Adding.{length_links, length-packets, length_hops}

filled-same : (xs : List ℕ) (lent list : List ℕ) → length list ≡ length lent → filled xs list ≡ filled xs lent
unfolding filled
filled-same xs lent list e = rw e

counts_so_far : (c : Counts) (l : Lists) → Room l → Within c → counts_of (so_far c l) ≡ c
counts_so_far c l room w = rw (length_links c l room w, length-packets c l room w, length_hops c l room w)

-- each list keeps its first places, and the rest is zero
kept_lists : (c : Counts) {lent mid after : Lists} → SameLengths lent mid → Fronts c mid after → after ≡ lists
    (filled (take c.links mid.origins) lent.origins) (filled (take c.links mid.ends) lent.ends)
    (filled (take c.packets mid.sources) lent.sources) (filled (take c.packets mid.stops) lent.stops)
    (filled (take c.hops mid.hops) lent.hops)
kept_lists c {lent} {mid} {after} s f = λ i. record {
  origins = (f.origins ∙ filled-same _ lent.origins mid.origins s.origins) i;
  ends = (f.ends ∙ filled-same _ lent.ends mid.ends s.ends) i;
  sources = (f.sources ∙ filled-same _ lent.sources mid.sources s.sources) i;
  stops = (f.stops ∙ filled-same _ lent.stops mid.stops s.stops) i;
  hops = (f.hops ∙ filled-same _ lent.hops mid.hops s.hops) i;
}

-- what stays is the job, or nothing
pub cleared : {o : Outcome Job} (told : Result Counts Refusal) {lent mid after : Lists} {last : ℕ} → RefusedBy line_numbers last o → Took o told mid → Room mid → SameLengths lent mid → Fronts (kept_of told) mid after → ReadAs o told lent after
cleared (Ok c) {lent} {mid} h t room s f =
    rw (← t.read) (record { answer = ap is (sym (counts_so_far c mid room t.within)); lists = kept_lists c s f })
cleared (Err r) h t room s f =
    let n = (number_place r).0 in
    let late : (eqb n 1 || eqb n 10) ≡ false = among_none (λ n. eqb n 1 || eqb n 10) line_numbers n refl (h.number (sym t.read)) in
    rw (← t.read) (record { answer = refl; lists = rw late (kept_lists (kept_of (Err r)) s f) })
