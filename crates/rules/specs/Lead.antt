-- Document 01, "The network and its steps", lead: the entry step of one packet less that of another, an integer.
use Rattle.std.specs.Prelude.{not, List, [], ◌∷◌, ℕ, ◌+◌, eqb, ℤ, pos, ◌-ℤ◌}
use Rattle.std.proofs.Math.Option.{Option, none, some}
use Rattle.std.proofs.Math.ListN.{get_elem?}
use Rattle.counting.specs.Count.{pick}
use Rattle.rules.specs.Outcome.{Outcome, is, refused, must, ◌then◌}

-- the step in which a packet enters the link, if it is on the path, whose first link it enters in step s
unfoldable pub entry_step : (ℕ → ℕ) → ℕ → ℕ → List ℕ → Option ℕ
entry_step delay link s [] = none
entry_step delay link s (l ∷ ls) = pick (eqb l link) (some s) (entry_step delay link (s + delay l) ls)

-- 13 where one of the two does not enter
abbrev pub lead_of : Option ℕ → Option ℕ → Outcome ℤ
lead_of none y = refused 13 0
lead_of (some x) none = refused 13 0
lead_of (some x) (some y) = is (pos x -ℤ pos y)

abbrev pub entry_of : (ℕ → ℕ) → ℕ → Option ℕ → Option (List ℕ) → Option ℕ
entry_of delay link none path = none
entry_of delay link (some s) none = none
entry_of delay link (some s) (some path) = entry_step delay link s path

-- packet k's entry step on the link, if there is such a packet and the link is on its path
unfoldable pub entry_at : (ℕ → ℕ) → List ℕ → List (List ℕ) → ℕ → ℕ → Option ℕ
entry_at delay starts ps link k = entry_of delay link (get_elem? starts k) (get_elem? ps k)

-- packet a's entry step on the link compared with packet b's
unfoldable pub lead : (ℕ → ℕ) → List ℕ → List (List ℕ) → ℕ → ℕ → ℕ → Outcome ℤ
lead delay starts ps a b link = must (not (eqb a b)) 13 0 then lead_of (entry_at delay starts ps link a) (entry_at delay starts ps link b)
