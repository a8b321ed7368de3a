-- Packets in lists: what the writer and the reader need of the lists.
use Rattle.std.specs.Prelude.{◌≡◌, List, ◌∷◌, ℕ, ◌≤◌, ◌<◌, length, get_or}
use Rattle.rules.specs.Sizes.{links_most, packets_most, hops_most}
use Rattle.theorems.specs.Jobs.{AtEach}

-- no stop is less than the one before it
pub record Rising (stops : List ℕ) : Type 0 where
  pub rise : AtEach ◌≤◌ (0 ∷ stops) stops

-- few hops, each on a link
pub record Linked (hops : List ℕ) : Type 0 where
  pub few : length hops ≤ hops_most
  pub links : (i : ℕ) → i < length hops → get_or hops i 0 < links_most

-- so it is in an accepted job with a start for each packet
pub record Writable (links : ℕ) (stops hops starts : List ℕ) : Type 0 where
  pub rising : Rising stops
  pub linked : Linked hops
  pub few_links : links ≤ links_most
  pub few_packets : length stops ≤ packets_most
  pub count : length starts ≡ length stops
