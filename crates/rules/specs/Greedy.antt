-- Document 01, "The network and its steps", the start of a packet: computed here, and stated as FirstFree. The starts of a
-- job are those of source document 003, section 5, in list order.
use Rattle.std.specs.Prelude.{◌≡◌, Bool, true, false, List, [], ◌∷◌, ◌++◌, ℕ, zero, suc, ◌<◌}
use Rattle.counting.specs.Count.{bit, sum_of}
use Rattle.rules.specs.Network.{Job}
use Rattle.rules.specs.Resource.{same}
use Rattle.rules.specs.Claims.{Claim, claims, Placed, place, blocked}

-- started at s the claims conflict with none of those placed, and at every smaller step with one
pub record FirstFree (bs : List Placed) (cs : List Claim) (s : ℕ) : Type 0 where
  pub free : blocked bs cs s ≡ false
  pub least : (t : ℕ) → t < s → blocked bs cs t ≡ true

-- the first of i, i + 1, .. at which the test fails; at most n are passed over
unfoldable pub scan : (ℕ → Bool) → ℕ → ℕ → ℕ
scan test zero i = i
scan test (suc n) i = elim (test i) [ true ↦ scan test n (suc i) | false ↦ i ]

-- how many pairs there are of one of the claims and a placed one of the same resource: each rules out one start at most
unfoldable pub crossings : List Placed → List Claim → ℕ
crossings bs cs = sum_of (λ b. sum_of (λ c. sum_of (λ d. bit (same d.resource c.resource)) b.claimed) cs) bs

unfoldable pub first_free : List Placed → List Claim → ℕ
first_free bs cs = scan (blocked bs cs) (crossings bs cs) 0

-- each takes the smallest step that is free, given those placed and those listed before it
unfoldable pub greedy_after : List Placed → List (List Claim) → List ℕ
greedy_after bs [] = []
greedy_after bs (cs ∷ rest) = let s = first_free bs cs in s ∷ greedy_after (bs ++ (place s cs ∷ [])) rest

-- the starts of a job
unfoldable pub greedy : Job → List ℕ
greedy j = greedy_after [] (claims j)
