-- What the owner's third demand says of a job with its starts: the theorems prove it of the starts of demand 2, and of no others.
use Rattle.std.specs.Prelude.{◌≡◌, List, ℕ, ◌*◌, ◌≤◌, length}
use Rattle.std.proofs.Math.Option.{some}
use Rattle.std.proofs.Math.ListN.{get_elem?}
use Rattle.rules.specs.Sizes.{start_found_most}
use Rattle.rules.specs.Network.{Job, paths}
use Rattle.rules.specs.Travel.{delay_in}
use Rattle.rules.specs.Counts.{end_of, routing_time, congestion, dilation, meetings}

pub record Bounded (j : Job) (starts : List ℕ) : Type 0 where
  pub meetings_count : length (meetings j) ≡ length (paths j)
  pub start_le_meetings : (k s m : ℕ) → get_elem? starts k ≡ some s → get_elem? (meetings j) k ≡ some m → s ≤ m
  pub start_le_most : (k s : ℕ) → get_elem? starts k ≡ some s → s ≤ start_found_most
  pub end_le_product : (k s : ℕ) (p : List ℕ) → get_elem? starts k ≡ some s → get_elem? (paths j) k ≡ some p
      → end_of (delay_in j) s p ≤ congestion j * dilation j
  pub routing_time_le_product : routing_time (delay_in j) starts (paths j) ≤ congestion j * dilation j
