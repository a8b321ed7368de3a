-- Document 01, "The network and its steps" and Check, said without claims, search or scan. The theorems show that the
-- definitions that compute mean this.
use Rattle.std.specs.Prelude.{◌≡◌, List, ℕ, ◌+◌, ◌<◌, ◌≤◌, length, take}
use Rattle.std.proofs.Math.Option.{some}
use Rattle.std.proofs.Math.ListN.{get_elem?}
use Rattle.rules.specs.Network.{Network, Packet}
use Rattle.rules.specs.Travel.{delay_of, travel}
use Rattle.rules.specs.Resource.{Resource}

-- ---- what a packet takes

-- a packet with this start and path enters the link in the step: the link stands at the hop, and the step is the start and the
-- steps of the links before it
pub record Enters (delay : ℕ → ℕ) (s : ℕ) (path : List ℕ) (hop link step : ℕ) : Type 0 where
  pub there : get_elem? path hop ≡ some link
  pub then_step : s + travel delay (take hop path) ≡ step

-- What packets take is a parameter: packet p, started at s, takes the resource in the step, at a place in the order in which it
-- takes things. Conflict, starts and the clash that is shown are said once, for whatever is taken.
abbrev pub Taking : Type 1
Taking = (s : ℕ) (p : Packet) (at : ℕ) (resource : Resource) (step : ℕ) → Type 0

-- on this card it takes the links that it enters, hop by hop
abbrev pub Takes : Network → Taking
Takes net s p at resource step = Enters (delay_of net) s p.path at resource step

-- ---- conflict and starts

-- a packet p with start s and a packet q with start t take one resource in one step
pub record Conflict (T : Taking) (s : ℕ) (p : Packet) (t : ℕ) (q : Packet) : Type 0 where
  pub at : ℕ
  pub other_at : ℕ
  pub resource : Resource
  pub step : ℕ
  pub one : T s p at resource step
  pub other : T t q other_at resource step

-- started at s, packet k, which is p, would conflict with packet `by`, listed before it
pub record Blocked (T : Taking) (ps : List Packet) (ss : List ℕ) (k : ℕ) (p : Packet) (s : ℕ) : Type 0 where
  pub by : ℕ
  pub packet : Packet
  pub start : ℕ
  pub before : by < k
  pub is_packet : get_elem? ps by ≡ some packet
  pub is_start : get_elem? ss by ≡ some start
  pub conflict : Conflict T s p start packet

-- the starts of source document 003's greedy algorithm: none is blocked, and every smaller step is
pub record Starts (T : Taking) (ps : List Packet) (ss : List ℕ) : Type 0 where
  pub count : length ss ≡ length ps
  pub free : (k : ℕ) (p : Packet) (s : ℕ) → get_elem? ps k ≡ some p → get_elem? ss k ≡ some s → Blocked T ps ss k p s → ⊥
  pub least : (k : ℕ) (p : Packet) (s t : ℕ) → get_elem? ps k ≡ some p → get_elem? ss k ≡ some s → t < s → Blocked T ps ss k p t

-- ---- the clash that the check shows

-- packet k, of these packets and starts, takes the resource in the step
pub record TakesAt (T : Taking) (ps : List Packet) (ss : List ℕ) (k at : ℕ) (resource : Resource) (step : ℕ) : Type 0 where
  pub packet : Packet
  pub start : ℕ
  pub is_packet : get_elem? ps k ≡ some packet
  pub is_start : get_elem? ss k ≡ some start
  pub takes : T start packet at resource step

-- packets k and e, e listed before k, both take the resource in the step
pub record ConflictAt (T : Taking) (ps : List Packet) (ss : List ℕ) (k at e : ℕ) (resource : Resource) (step : ℕ) : Type 0 where
  pub before : e < k
  pub other_at : ℕ
  pub later : TakesAt T ps ss k at resource step
  pub earlier : TakesAt T ps ss e other_at resource step

-- the lowest k; the first that k takes in conflict (a hop, where links are taken); the lowest e there
pub record Shown (T : Taking) (ps : List Packet) (ss : List ℕ) (k e : ℕ) (resource : Resource) (step : ℕ) : Type 0 where
  pub at : ℕ
  pub true_conflict : ConflictAt T ps ss k at e resource step
  pub lowest : (k' at' e' : ℕ) (r : Resource) (t : ℕ) → ConflictAt T ps ss k' at' e' r t → k ≤ k'
  pub first : (at' e' : ℕ) (r : Resource) (t : ℕ) → ConflictAt T ps ss k at' e' r t → at ≤ at'
  pub lowest_there : (e' : ℕ) → ConflictAt T ps ss k at e' resource step → e ≤ e'

-- ---- entry of a link, for the lead

-- packet k, of these paths and starts, enters the link in the step
pub record EntersAt (delay : ℕ → ℕ) (ps : List (List ℕ)) (ss : List ℕ) (k link step : ℕ) : Type 0 where
  pub path : List ℕ
  pub start : ℕ
  pub is_path : get_elem? ps k ≡ some path
  pub is_start : get_elem? ss k ≡ some start
  pub hop : ℕ
  pub enters : Enters delay start path hop link step
