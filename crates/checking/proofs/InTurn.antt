-- The plan reader's answer for a job as lists, then the check's.
use mathlib.Core.Path.{◌≡◌, refl, ◌∙◌}
use mathlib.Core.List.{List, ◌++◌}
use Prim.Native.Nat.{ℕ, ◌≤◌}
use native.Mathlib.Omega.{arith}
use lib.ListN.{length, take, drop, length-append}
use lib.Seq.{take-append-le, take_all}
use Rattle.std.specs.Prelude.{Option, Result, Ok, Err}
use Rattle.rules.specs.Network.{Job}
use Rattle.rules.specs.Outcome.{Outcome, is, refused, fine, onward}
use Rattle.rules.specs.Answers.{plan_read_in, checked}
use Rattle.theorems.proofs.Verdicts.{refused_not_is, refused_for}
use Rattle.job.specs.declared.Refusal.{Refusal}
use Rattle.job.specs.Told.{refusal_of}
use Rattle.planner.specs.declared.Clash.{Clash}
use Rattle.planner.specs.Told.{checked_of}
use Rattle.plan_text.specs.Told.{ReadBackAs}
use Rattle.plan_text.proofs.Obeys.{read_starts}

-- a list in front of others is what its places hold
front_of : (xs ys : List ℕ) {list : List ℕ} {n : ℕ} → list ≡ xs ++ ys → n ≡ length xs → take n list ≡ xs
front_of xs ys e n = rw (e, n) (take-append-le (length xs) xs ys (omega arith) ∙ take_all (length xs) xs (omega arith))

module _ (j : Job) (plan : List ℕ) (places : ℕ) {lent after : List ℕ} where
  pub plan_refused : (r : Refusal) → ReadBackAs (plan_read_in j plan places) (Err r) lent after
      → refusal_of r ≡ onward (plan_read_in j plan places) (λ starts. checked j starts)
  plan_refused r p = go (plan_read_in j plan places) p.verdict
    where
      go : (o : Outcome (List ℕ)) → refusal_of r ≡ onward o (λ starts. fine) → refusal_of r ≡ onward o (λ starts. checked j starts)
      go (is ss) e = absurd (refused_not_is e)
      go (refused n q) e = refused_for e

  module _ (p : ReadBackAs (plan_read_in j plan places) (Ok tt) lent after) where
    pub read_room : length j.sources ≤ length after
    read_room =
        let r = read_starts j plan places p refl in
        rw r.stand (omega (arith, r.started.count, length-append r.starts (drop (length r.starts) lent)))

    pub checked_told : (told : Result (Option Clash) Refusal) → checked_of told ≡ checked j (take (length j.sources) after)
        → checked_of told ≡ onward (plan_read_in j plan places) (λ starts. checked j starts)
    checked_told told ensures =
        let r = read_starts j plan places p refl in
        let n : length j.sources ≡ length r.starts = omega (arith, r.started.count) in
        rw (front_of r.starts (drop (length r.starts) lent) r.stand n) at ensures ∙ rw r.said
