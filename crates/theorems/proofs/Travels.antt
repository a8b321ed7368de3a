-- How many steps links take, where each takes from one step to the most.
use mathlib.Core.Path.{refl}
use mathlib.Core.List.Memᴰ.{head as here}
use mathlib.Core.List.Memᴰ.{tail as there}
use mathlib.Core.List.{List, [], ◌∷◌, Memᴰ}
use Prim.Native.Nat.{ℕ, ◌*◌, ◌≤◌}
use native.Mathlib.Omega.{arith}
use lib.ListN.{length, take, length-take}
use Rattle.counting.proofs.Places.{mem-take}
use Rattle.rules.specs.Sizes.{delay_most, path_most}
use Rattle.rules.specs.Travel.{travel}

-- each of the links takes from one step to the most
abbrev pub Delayed : (ℕ → ℕ) → List ℕ → Type 0
Delayed delay ls = (l : ℕ) → Memᴰ l ls → (1 ≤ delay l) × (delay l ≤ delay_most)

-- paths no longer than one may be, of such links
abbrev pub PathsFit : (ℕ → ℕ) → List (List ℕ) → Type 0
PathsFit delay ps = (p : List ℕ) → Memᴰ p ps → (length p ≤ path_most) × Delayed delay p

pub hops_le-travel : (delay : ℕ → ℕ) (ls : List ℕ) → Delayed delay ls → length ls ≤ travel delay ls
unfolding travel
hops_le-travel delay [] h = omega arith
hops_le-travel delay (l ∷ ls) h = let d = h l (here refl) in omega (arith, d.0, hops_le-travel delay ls (λ m i. h m (there i)))

pub travel-le_hops : (delay : ℕ → ℕ) (ls : List ℕ) → Delayed delay ls → travel delay ls ≤ delay_most * length ls
unfolding travel
travel-le_hops delay [] h = omega arith
travel-le_hops delay (l ∷ ls) h = let d = h l (here refl) in omega (arith, d.1, travel-le_hops delay ls (λ m i. h m (there i)))

pub travel-take-le : (delay : ℕ → ℕ) (ls : List ℕ) (hop : ℕ) → Delayed delay ls → travel delay (take hop ls) ≤ delay_most * hop
travel-take-le delay ls hop h = omega (arith, travel-le_hops delay (take hop ls) (λ l m. h l (mem-take hop ls m)), length-take hop ls)

-- where they take a step at all, there is a link
pub some_travel : (delay : ℕ → ℕ) (ls : List ℕ) {C : ℕ} → ((l : ℕ) → Memᴰ l ls → 1 ≤ C) → 1 ≤ travel delay ls → 1 ≤ C
unfolding travel
some_travel delay [] f z = omega arith
some_travel delay (l ∷ ls) f z = f l (here refl)
