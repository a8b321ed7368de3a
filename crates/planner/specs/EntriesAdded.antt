-- Entries added in order: what entering the links of placed packets, claim by claim, leaves among the entries by link.
use Rattle.std.specs.Prelude.{◌≡◌, List, [], ◌∷◌, ◌++◌, map, ℕ, ◌+◌, length}
use Rattle.rules.specs.Claims.{Placed}
use Rattle.planner.specs.Entries.{steps_on, Rooms, RoomFor}
use Rattle.planner.specs.Again.{steps_at}

-- the steps in which a placed packet takes what it claims, in the order of its claims
unfoldable pub claim_steps : Placed → List ℕ
claim_steps b = map (λ c. b.start + c.offset) b.claimed

-- those of all packets, one after the other
unfoldable pub all_steps : List Placed → List ℕ
all_steps [] = []
all_steps (b ∷ bs) = claim_steps b ++ all_steps bs

-- after the entries of these links in these steps, side by side: each link's own come after those that it had, in whatever rooms there
-- was room for them
abbrev pub EntriesAdded : (links all nexts steps nexts' steps' : List ℕ) → Type 0
EntriesAdded links all nexts steps nexts' steps' =
    (room : ℕ → ℕ) (firsts : List ℕ) → Rooms room firsts (length steps) → RoomFor links room firsts nexts → (link : ℕ)
    → steps_on firsts nexts' steps' link ≡ steps_on firsts nexts steps link ++ steps_at link links all
