-- Steps in order: those of one link among the steps of all hops, and what they tell of who takes the link.
use mathlib.Core.Path.{◌≡◌, refl, sym, ap, ◌∙◌}
use mathlib.Core.Bool.{Bool, true, false, ◌||◌, ◌&&◌}
use mathlib.Core.List.{List, [], ◌∷◌, ◌++◌, map, append_assoc}
use Prim.Native.Nat.{ℕ, ◌+◌}
use native.Mathlib.Nat.{suc_inj}
use native.Mathlib.Omega.{arith}
use lib.Dec.{eqb}
use lib.ListN.{length, length-append, length-map}
use Rattle.counting.specs.Count.{pick, bit, among, occurs}
use Rattle.counting.proofs.Tests.{any_append}
use Rattle.rules.specs.Travel.{one_step}
use Rattle.rules.specs.Claims.{Claim, link_claims, Placed, place, takes, taken}
use Rattle.planner.specs.PacketsInLists.{path_claims}
use Rattle.planner.specs.Again.{steps_at}
use Rattle.planner.specs.EntriesAdded.{claim_steps, all_steps}

-- ---- the steps of one link

pick-append : (b : Bool) (s : ℕ) (xs ys : List ℕ) → pick b (s ∷ (xs ++ ys)) (xs ++ ys) ≡ pick b (s ∷ xs) xs ++ ys
pick-append true s xs ys = refl
pick-append false s xs ys = refl

pub steps_at-append : (link : ℕ) (ls ms ss ts : List ℕ) → length ls ≡ length ss → steps_at link (ls ++ ms) (ss ++ ts) ≡ steps_at link ls ss ++ steps_at link ms ts
unfolding steps_at
steps_at-append link [] ms [] ts e = refl
steps_at-append link [] ms (s ∷ ss) ts e = absurd (omega (arith, e))
steps_at-append link (l ∷ ls) ms [] ts e = absurd (omega (arith, e))
steps_at-append link (l ∷ ls) ms (s ∷ ss) ts e = rw (steps_at-append link ls ms ss ts (suc_inj e)) (pick-append (eqb l link) s (steps_at link ls ss) (steps_at link ms ts))

-- a link that is not entered has none
pub steps_at_none : (link : ℕ) (ls ss : List ℕ) → occurs link ls ≡ 0 → steps_at link ls ss ≡ []
unfolding steps_at
steps_at_none link [] ss e = refl
steps_at_none link (l ∷ ls) [] e = refl
steps_at_none link (l ∷ ls) (s ∷ ss) e = go (eqb l link) e (steps_at_none link ls ss)
  where
    go : (b : Bool) → bit b + occurs link ls ≡ 0 → (occurs link ls ≡ 0 → steps_at link ls ss ≡ []) → pick b (s ∷ steps_at link ls ss) (steps_at link ls ss) ≡ []
    go true e rest = absurd (omega (arith, e))
    go false e rest = rest (omega (arith, e))

-- ---- those of placed packets

-- the links that a placed packet claims, and those of all packets, one after the other
abbrev claim_links : Placed → List ℕ
claim_links b = map (λ c. c.resource) b.claimed

unfoldable pub all_links : List Placed → List ℕ
all_links [] = []
all_links (b ∷ bs) = claim_links b ++ all_links bs

as_many : (b : Placed) → length (claim_links b) ≡ length (claim_steps b)
unfolding claim_steps
as_many b = length-map b.claimed _ ∙ sym (length-map b.claimed _)

pub all_as_many : (bs : List Placed) → length (all_links bs) ≡ length (all_steps bs)
unfolding all_links all_steps
all_as_many [] = refl
all_as_many (b ∷ bs) = omega (arith, length-append (claim_links b) (all_links bs), length-append (claim_steps b) (all_steps bs), as_many b, all_as_many bs)

pub all_links-append : (xs ys : List Placed) → all_links (xs ++ ys) ≡ all_links xs ++ all_links ys
unfolding all_links
all_links-append [] ys = refl
all_links-append (x ∷ xs) ys = rw (all_links-append xs ys) (sym (append_assoc (claim_links x) (all_links xs) (all_links ys)))

pub all_steps-append : (xs ys : List Placed) → all_steps (xs ++ ys) ≡ all_steps xs ++ all_steps ys
unfolding all_steps
all_steps-append [] ys = refl
all_steps-append (x ∷ xs) ys = rw (all_steps-append xs ys) (sym (append_assoc (claim_steps x) (all_steps xs) (all_steps ys)))

among-pick : (b : Bool) (t : ℕ) (ts : List ℕ) (step : ℕ) → among step (pick b (t ∷ ts) ts) ≡ ((b && eqb t step) || among step ts)
among-pick true t ts step = refl
among-pick false t ts step = refl

-- a step is among the link's exactly if the packet takes the link in it
among_steps_of : (s : ℕ) (cs : List Claim) (link step : ℕ) → among step (steps_at link (claim_links (place s cs)) (claim_steps (place s cs))) ≡ takes (place s cs) link step
unfolding steps_at claim_steps takes
among_steps_of s [] link step = refl
among_steps_of s (c ∷ cs) link step =
    among-pick (eqb c.resource link) (s + c.offset) (steps_at link (claim_links (place s cs)) (claim_steps (place s cs))) step
    ∙ ap (λ (b : Bool). (eqb c.resource link && eqb (s + c.offset) step) || b) (among_steps_of s cs link step)

-- and exactly if one of them takes it
pub among-all_steps : (bs : List Placed) (link step : ℕ) → among step (steps_at link (all_links bs) (all_steps bs)) ≡ taken bs link step
unfolding all_links all_steps steps_at taken
among-all_steps [] link step = refl
among-all_steps (b ∷ bs) link step =
    rw (steps_at-append link (claim_links b) (all_links bs) (claim_steps b) (all_steps bs) (as_many b), any_append, among_steps_of b.start b.claimed link step, among-all_steps bs link step)

-- ---- along a path

pub links_of_path : (delay : ℕ → ℕ) (o : ℕ) (path : List ℕ) → map (λ c. c.resource) (link_claims delay o path) ≡ path
unfolding link_claims
links_of_path delay o [] = refl
links_of_path delay o (l ∷ ls) = ap (λ (r : List ℕ). l ∷ r) (links_of_path delay (o + delay l) ls)

module _ (start : ℕ) (path : List ℕ) where
  pub path_as_many : length path ≡ length (claim_steps (place start (path_claims path)))
  path_as_many = rw (links_of_path one_step 0 path) at (as_many (place start (path_claims path)))

  pub among-path_steps : (link step : ℕ) → among step (steps_at link path (claim_steps (place start (path_claims path)))) ≡ takes (place start (path_claims path)) link step
  among-path_steps link step = rw (links_of_path one_step 0 path) at (among_steps_of start (path_claims path) link step)
