-- Links entered again: the first hop, in list order over all packets' hops, that enters its link in a step in which a hop before it does.
-- Links and steps stand side by side: hop i enters the i-th of the links in the i-th of the steps.
use Rattle.std.specs.Prelude.{◌≡◌, Bool, true, false, List, [], ◌∷◌, Option, Some, None, ℕ, ◌<◌, eqb, length, get_or, take}
use Rattle.counting.specs.Count.{pick, among}
use Rattle.planner.specs.Entries.{steps_on}

-- the steps in which the hops enter the link, in order: links and steps stand side by side
unfoldable pub steps_at : ℕ → (links steps : List ℕ) → List ℕ
steps_at link [] steps = []
steps_at link (l ∷ ls) [] = []
steps_at link (l ∷ ls) (s ∷ ss) = pick (eqb l link) (s ∷ steps_at link ls ss) (steps_at link ls ss)

-- whether hop i enters its link in a step in which a hop before it does
unfoldable pub again : (links steps : List ℕ) → ℕ → Bool
again links steps i = among (get_or steps i 0) (steps_at (get_or links i 0) (take i links) (take i steps))

-- the first of the numbers below n that passes a test
pub record IsFirst (passes : ℕ → Bool) (n r : ℕ) : Type 0 where
  pub within : r < n
  pub here : passes r ≡ true
  pub earlier : (i : ℕ) → i < r → passes i ≡ false

-- the first, if one does
abbrev pub FirstOf : (passes : ℕ → Bool) → ℕ → Option ℕ → Type 0
FirstOf passes n None = (i : ℕ) → i < n → passes i ≡ false
FirstOf passes n (Some r) = IsFirst passes n r

-- the first hop that does so, if one does
abbrev pub FirstAgain : (links steps : List ℕ) → Option ℕ → Type 0
FirstAgain links steps = FirstOf (again links steps) (length links)

-- `all` has a step for each hop, and each link's entries are the steps of its hops, in order
pub record InOrder (links all firsts nexts steps : List ℕ) : Type 0 where
  pub as_many : length all ≡ length links
  pub same : (link : ℕ) → steps_on firsts nexts steps link ≡ steps_at link links all
