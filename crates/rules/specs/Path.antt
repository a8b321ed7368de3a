-- Document 01, "The network and its steps", second point: what a path is.
use Rattle.std.specs.Prelude.{◌≡◌, List, ℕ, suc, length}
use Rattle.std.proofs.Math.Option.{some}
use Rattle.std.proofs.Math.ListN.{get_elem?}
use Rattle.rules.specs.Network.{Network}

-- From the source each link leaves the node reached and enters the next one, and no node is visited twice. No link at all is a path
-- too: that a packet has one is asked by itself (`packet_verdict` of Tables.antt).
pub record IsPath (net : Network) (source : ℕ) (path : List ℕ) : Type 0 where
  -- the nodes in the order of their visits: one more than there are links
  pub visited : List ℕ
  pub count : length visited ≡ suc (length path)
  pub begins : get_elem? visited 0 ≡ some source
  pub leaves : (p l v : ℕ) → get_elem? path p ≡ some l → get_elem? visited p ≡ some v → get_elem? net.origins l ≡ some v
  pub enters : (p l v : ℕ) → get_elem? path p ≡ some l → get_elem? visited (suc p) ≡ some v → get_elem? net.ends l ≡ some v
  pub once : (p q v : ℕ) → get_elem? visited p ≡ some v → get_elem? visited q ≡ some v → p ≡ q
