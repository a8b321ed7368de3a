-- When a text's length and each of its lines is accepted, and what the line makes of the job read so far.
use mathlib.Core.Path.{◌≡◌}
use mathlib.Core.List.{List}
use mathlib.Core.Logic.Iff
use mathlib.Core.Logic.{◌↔◌}
use Prim.Native.Nat.{ℕ, ◌+◌, ◌≤◌, ◌<◌}
use lib.ListN.{length}
use Rattle.rules.specs.Sizes.{text_most, nodes_most, links_most, packets_most, hops_most}
use Rattle.rules.specs.Network.{Job}
use Rattle.rules.specs.Outcome.{is}
use Rattle.rules.specs.Bytes.{line_feed, split}
use Rattle.rules.specs.JobText.{nodes, link, packet, blank, with_link, with_packet, with_line, first_line, all_lines, reading}
use Rattle.theorems.proofs.Verdicts.{leb_iff, eqb_iff, and_iff, is_iff, must-iff, then_iff}
use Rattle.theorems.specs.Jobs.{IsLink, IsPacket}
use Rattle.theorems.proofs.Accepted.{link_fine-iff, packet_fine-iff}

pub reading_lines_iff : (text : List ℕ) (j : Job) → (reading text ≡ is j) ↔ ((length text ≤ text_most) × (all_lines (split line_feed text) ≡ is j))
unfolding reading
reading_lines_iff text j = then_iff (must-iff _ _ (leb_iff _ _)) Iff.rfl

pub first_line-iff : (n : ℕ) (j : Job) → (first_line (nodes n) ≡ is j) ↔ (((1 ≤ n) × (n ≤ nodes_most)) × (blank n ≡ j))
first_line-iff n j = then_iff (must-iff _ _ (and_iff (leb_iff 1 n) (leb_iff n nodes_most))) is_iff

pub link_line-iff : (n : ℕ) (j : Job) (from to : ℕ) (k : Job) → (with_line n j (link from to) ≡ is k)
    ↔ ((length j.sources ≡ 0) × ((length j.network.origins < links_most) × (IsLink j.network.nodes from to × (with_link j from to ≡ k))))
unfolding with_line
link_line-iff n j from to k =
    then_iff (must-iff _ _ (eqb_iff _ 0)) (then_iff (must-iff _ _ (leb_iff _ _)) (then_iff (link_fine-iff _ n from to) is_iff))

pub packet_line-iff : (n : ℕ) (j : Job) (source : ℕ) (path : List ℕ) (k : Job) → (with_line n j (packet source path) ≡ is k)
    ↔ ((length j.sources < packets_most) × ((length j.hops + length path ≤ hops_most) × (IsPacket j.network source path × (with_packet j source path ≡ k))))
unfolding with_line
packet_line-iff n j source path k =
    then_iff (must-iff _ _ (leb_iff _ _)) (then_iff (must-iff _ _ (leb_iff _ _)) (then_iff (packet_fine-iff j.network n source path) is_iff))
