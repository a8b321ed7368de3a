-- The hops are those of the paths, one path after another.
use mathlib.Core.Path.{◌≡◌, refl, sym, ap, ◌∙◌}
use mathlib.Core.Bool.{true}
use mathlib.Core.List.Memᴰ
use mathlib.Core.List.Memᴰ.{head as here}
use mathlib.Core.List.Memᴰ.{tail as there}
use mathlib.Core.List.{List, [], ◌∷◌, ◌++◌, Memᴰ}
use mathlib.Core.Logic.Iff
use mathlib.Core.Logic.{⊎_elim}
use Prim.Native.Nat.{ℕ, ◌≤◌}
use native.Mathlib.Omega.{arith}
use lib.ListN.{length, take, drop, take-append-drop}
use lib.Seq.{drop-append-le, length-take-le, slice, drop-length}
use borrow.Author.Tests.{eqb-true}
use Rattle.counting.specs.Count.{sum_of}
use Rattle.counting.proofs.Sums.{sum_append}
use Rattle.rules.specs.Network.{paths_from}
use Rattle.rules.specs.Tables.{stops_agree}
use Rattle.theorems.proofs.Verdicts.{leb_iff, and_iff}
use Rattle.theorems.proofs.Accepted.{hops_from}

hops_parted : (a e : ℕ) (hops : List ℕ) → a ≤ e → e ≤ length hops → drop a hops ≡ slice a e hops ++ drop e hops
hops_parted a e hops l m =
    ap (drop a) (sym (take-append-drop e hops)) ∙ drop-append-le a (take e hops) (drop e hops) (rw (length-take-le e hops m) l)

record Parted (a e : ℕ) (es hops : List ℕ) : Type 0 where
  parts : drop a hops ≡ slice a e hops ++ drop e hops
  rest : stops_agree e es (length hops) ≡ true

parted : (a e : ℕ) (es hops : List ℕ) → stops_agree a (e ∷ es) (length hops) ≡ true → Parted a e es hops
unfolding stops_agree
parted a e es hops t =
    let (l, u) = (and_iff (leb_iff a e) Iff.rfl).0 t in
    record { parts = hops_parted a e hops l (omega (arith, hops_from e es hops u)); rest = u }

none_left : (a : ℕ) (hops : List ℕ) → stops_agree a [] (length hops) ≡ true → drop a hops ≡ []
unfolding stops_agree
none_left a hops t = rw (eqb-true a (length hops) t) (drop-length hops)

pub sum_paths : (f : ℕ → ℕ) (a : ℕ) (stops hops : List ℕ) → stops_agree a stops (length hops) ≡ true → sum_of f (drop a hops) ≡ sum_of (λ p. sum_of f p) (paths_from a stops hops)
unfolding paths_from
sum_paths f a [] hops t = rw (none_left a hops t)
sum_paths f a (e ∷ es) hops t =
    let w = parted a e es hops t in
    rw w.parts (omega (arith, sum_append f (slice a e hops) (drop e hops), sum_paths f e es hops w.rest))

pub mem-paths : (a : ℕ) (stops hops : List ℕ) → stops_agree a stops (length hops) ≡ true → {l : ℕ} → Memᴰ l (drop a hops) → (p : List ℕ) × Memᴰ p (paths_from a stops hops) × Memᴰ l p
unfolding paths_from
mem-paths a [] hops t m = absurd (Memᴰ.not-nil (rw (none_left a hops t) at m))
mem-paths a (e ∷ es) hops t m =
    let w = parted a e es hops t in
    ⊎_elim (λ i. (slice a e hops, here refl, i)) (λ i. let (p, n, k) = mem-paths e es hops w.rest i in (p, there n, k))
    (Memᴰ.append_cases (slice a e hops) (rw w.parts at m))
