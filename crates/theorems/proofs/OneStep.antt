-- What goes along a path, in document 01's own words: since each hop takes one step, the link at hop p is entered in step s + p, a
-- packet with h hops ends at s + h, and D is the most hops.
use mathlib.Core.Path.{◌≡◌}
use mathlib.Core.List.{List}
use mathlib.Core.Logic.{◌↔◌}
use mathlib.Core.Option.{some}
use Prim.Native.Nat.{ℕ, ◌+◌, ◌≤◌}
use native.Mathlib.Omega.{arith}
use native.Mathlib.Nat.{le_antisymm}
use lib.ListN.{length, take, get_elem?}
use lib.Seq.{length-take-le}
use Rattle.counting.specs.Count.{max_of}
use Rattle.counting.proofs.Sums.{sum_const, le-max, max-le}
use Rattle.counting.proofs.Places.{at_below}
use Rattle.rules.specs.Network.{Job, paths}
use Rattle.rules.specs.Travel.{one_step, delay_of, delay_in, travel}
use Rattle.rules.specs.Counts.{end_of, dilation}
use Rattle.rules.specs.Plain.{Enters}

pub travel_hops : (ls : List ℕ) → travel one_step ls ≡ length ls
unfolding travel
travel_hops ls = omega (arith, sum_const {A = ℕ} 1 ls)

travel_to_hop : (p : ℕ) (ls : List ℕ) → p ≤ length ls → travel one_step (take p ls) ≡ p
travel_to_hop p ls l = omega (arith, travel_hops (take p ls), length-take-le p ls l)

pub enters_iff : (s : ℕ) (path : List ℕ) (p link step : ℕ) → Enters one_step s path p link step ↔ ((get_elem? path p ≡ some link) × (s + p ≡ step))
enters_iff s path p link step = (
  λ e. (e.there, omega (arith, e.then_step, steps e.there)),
  λ h. record { there = h.0; then_step = omega (arith, h.1, steps h.0) },
)
  where
    steps : get_elem? path p ≡ some link → travel one_step (take p path) ≡ p
    steps e = travel_to_hop p path (omega (arith, at_below path p e))

module _ (j : Job) where
  pub end_hops : (s : ℕ) (path : List ℕ) → end_of (delay_in j) s path ≡ s + length path
  unfolding end_of delay_of
  end_hops s path = omega (arith, travel_hops path)

  pub dilation_hops : dilation j ≡ max_of (λ p. length p) (paths j)
  unfolding dilation delay_of
  dilation_hops =
      le_antisymm
      (max-le (travel one_step) (paths j) _ (λ p m. omega (arith, travel_hops p, le-max (λ (q : List ℕ). length q) m)))
      (max-le (λ p. length p) (paths j) _ (λ p m. omega (arith, travel_hops p, le-max (travel one_step) m)))
