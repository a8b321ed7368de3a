-- What the stops say of the paths: how many hops each has.
use mathlib.Core.Path.{◌≡◌, sym, ap, ◌∙◌}
use mathlib.Core.Bool.{true}
use mathlib.Core.List.{List, [], ◌∷◌}
use mathlib.Core.Logic.Iff
use Prim.Native.Nat.{ℕ, zero, suc, ◌+◌, ◌-◌, ◌≤◌, ◌<◌}
use native.Mathlib.Omega.{arith}
use native.Mathlib.Nat.{not-suc-le-zero, le_of_suc-le-suc}
use lib.ListN.{length, get_or, take}
use lib.Seq.{length-slice, length-take-le}
use Rattle.std.specs.Prelude.{Option, unwrap_or, slice_get}
use Rattle.std.proofs.lemmas.List.{get_or-take}
use Rattle.std.proofs.lemmas.Option.{unwrap_or-slice_get}
use Rattle.counting.proofs.Places.{at-get_or}
use Rattle.rules.specs.Sizes.{packets_most}
use Rattle.rules.specs.Network.{Job, paths_from, paths}
use Rattle.rules.specs.Outcome.{fine}
use Rattle.rules.specs.Tables.{stops_agree, tables}
use Rattle.rules.specs.Travel.{one_step}
use Rattle.rules.specs.Counts.{end_of}
use Rattle.theorems.specs.Jobs.{IsJob}
use Rattle.theorems.proofs.Verdicts.{leb_iff, and_iff}
use Rattle.theorems.proofs.OneStep.{travel_hops}
use Rattle.theorems.proofs.Accepted.{tables-fine-iff, job_stops_agree, length-paths, hops_from}

hops_of : (a : ℕ) (stops hops : List ℕ) (k : ℕ) → stops_agree a stops (length hops) ≡ true → k < length stops
    → length (get_or (paths_from a stops hops) k []) ≡ get_or stops k 0 - get_or (a ∷ stops) k 0
unfolding paths_from stops_agree
hops_of a [] hops k t h = absurd (not-suc-le-zero h)
hops_of a (e ∷ es) hops zero t h =
    let (l, u) = (and_iff (leb_iff a e) Iff.rfl).0 t in
    length-slice a e hops (omega (arith, hops_from e es hops u))
hops_of a (e ∷ es) hops (suc k) t h =
    let (l, u) = (and_iff (leb_iff a e) Iff.rfl).0 t in
    hops_of e es hops k u (le_of_suc-le-suc h)

-- a job whose tables stand is accepted
pub accepted_job : (j : Job) → tables j ≡ fine → IsJob j
accepted_job j t = (tables-fine-iff j).0 t

-- the stop before, as code has it: the last of those before, or 0
pub stop_before : (stops : List ℕ) (k : ℕ) {last : Option ℕ} {before : ℕ} → before ≡ unwrap_or last 0
    → last ≡ slice_get (take k stops) (length (take k stops) - 1) → k ≤ length stops → before ≡ get_or (0 ∷ stops) k 0
stop_before stops zero e f h = e ∙ rw f
stop_before stops (suc k) e f h =
    let n : length (take (suc k) stops) - 1 ≡ k = omega (arith, length-take-le (suc k) stops h) in
    e ∙ ap (λ (r : Option ℕ). unwrap_or r 0) f ∙ unwrap_or-slice_get (take (suc k) stops) (length (take (suc k) stops) - 1) 0
    ∙ ap (λ i. get_or (take (suc k) stops) i 0) n ∙ get_or-take (suc k) stops k 0 (omega arith)

module _ (j : Job) (t : tables j ≡ fine) (k : ℕ) (h : k < length j.stops) where
  pub path_hops : get_or j.stops k 0 - get_or (0 ∷ j.stops) k 0 ≡ length (get_or (paths j) k [])
  unfolding paths
  path_hops = sym (hops_of 0 j.stops j.hops k (job_stops_agree j (accepted_job j t)) h)

  pub stop_rises : get_or (0 ∷ j.stops) k 0 ≤ get_or j.stops k 0
  stop_rises = (accepted_job j t).stops_fit.rise k _ _ (at-get_or (0 ∷ j.stops) k 0 (omega arith)) (at-get_or j.stops k 0 h)

-- a start and the hops of a path are its end
pub end-hops : (start : ℕ) (path : List ℕ) {hops end : ℕ} → end ≡ start + hops → hops ≡ length path → end ≡ end_of one_step start path
unfolding end_of
end-hops start path e h = rw (travel_hops path, ← h) e

module _ (j : Job) (starts : List ℕ) (count : length starts ≡ length j.stops) where
  pub paths_count : length (paths j) ≡ length starts
  paths_count = length-paths j ∙ sym count

  pub few_starts : tables j ≡ fine → length starts ≤ packets_most
  few_starts t = omega (arith, count, (accepted_job j t).stops_count, (accepted_job j t).few_packets)
