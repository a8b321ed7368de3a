-- Document 01, "The network and its steps": entry steps and conflict, to compute with. A packet claims resources, each at an
-- offset from its start; `claims_of` says which, and all else is over claims. Plain.antt says the same without claims.
use Rattle.std.specs.Prelude.{Bool, ◌&&◌, List, [], ◌∷◌, map, ℕ, ◌+◌, eqb}
use Rattle.counting.specs.Count.{any_of}
use Rattle.rules.specs.Network.{Network, Packet, Job, packets}
use Rattle.rules.specs.Travel.{delay_of}
use Rattle.rules.specs.Resource.{Resource, same}

pub record Claim : Type 0 where
  pub resource : Resource
  pub offset : ℕ

-- the links of a path, the first at offset o, each next one a delay later
unfoldable pub link_claims : (ℕ → ℕ) → ℕ → List ℕ → List Claim
link_claims delay o [] = []
link_claims delay o (l ∷ ls) = record { resource = l; offset = o } ∷ link_claims delay (o + delay l) ls

-- what a packet claims, in the order in which a conflict is looked for: the links of its path
unfoldable pub claims_of : Network → Packet → List Claim
claims_of net p = link_claims (delay_of net) 0 p.path

-- what the packets of a job claim, in order
unfoldable pub claims : Job → List (List Claim)
claims j = map (claims_of j.network) (packets j)

-- a packet's claims with its start
pub record Placed : Type 0 where
  pub start : ℕ
  pub claimed : List Claim

abbrev pub place : ℕ → List Claim → Placed
place s cs = record { start = s; claimed = cs }

-- packets with their starts
unfoldable pub placed : List ℕ → List (List Claim) → List Placed
placed [] rest = []
placed (s ∷ ss) [] = []
placed (s ∷ ss) (cs ∷ rest) = place s cs ∷ placed ss rest

-- the same of packets, or paths, of which f says what each claims
abbrev pub placed_by : {A : Type 0} → (A → List Claim) → List ℕ → List A → List Placed
placed_by f ss xs = placed ss (map f xs)

-- whether the placed packet takes the resource in the step
unfoldable pub takes : Placed → Resource → ℕ → Bool
takes b resource step = any_of (λ c. same c.resource resource && eqb (b.start + c.offset) step) b.claimed

-- whether one of those placed takes the resource in the step
unfoldable pub taken : List Placed → Resource → ℕ → Bool
taken bs resource step = any_of (λ b. takes b resource step) bs

-- whether two placed packets take one resource in one step
unfoldable pub conflict : Placed → Placed → Bool
conflict a b = any_of (λ c. takes b c.resource (a.start + c.offset)) a.claimed

-- whether a packet with these claims, started at s, conflicts with one of those placed
unfoldable pub blocked : List Placed → List Claim → ℕ → Bool
blocked bs cs s = any_of (λ b. conflict (place s cs) b) bs
