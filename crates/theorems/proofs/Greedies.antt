-- The greedy starts over claims: each the first free step after those before it, no other list is so, and later packets move
-- nothing.
use mathlib.Core.Path.{◌≡◌, refl, ap, ap₂}
use mathlib.Core.List.{List, [], ◌∷◌, ◌++◌, append-nil, append_assoc}
use mathlib.Core.Option.{some}
use Prim.Native.Nat.{ℕ, zero, suc}
use native.Mathlib.Omega.{arith}
use lib.ListN.{length, take, get_elem?}
use Rattle.counting.proofs.Places.{some_same, none_not_some}
use Rattle.rules.specs.Claims.{Claim, Placed, place, placed}
use Rattle.rules.specs.Greedy.{FirstFree, first_free, greedy_after}
use Rattle.theorems.proofs.FirstFrees.{first_free_is, first_free_unique}

-- each of xs, placed after bs, starts at its first free step
abbrev pub EachFirst : List Placed → List Placed → Type 0
EachFirst bs xs = (k : ℕ) (b : Placed) → get_elem? xs k ≡ some b → FirstFree (bs ++ take k xs) b.claimed b.start

-- a list is so exactly if its first is, and the rest is after it
first_of_each : (bs : List Placed) (x : Placed) (xs : List Placed) → EachFirst bs (x ∷ xs) → FirstFree bs x.claimed x.start
first_of_each bs x xs h = rw append-nil at (h 0 x refl)

rest_of_each : (bs : List Placed) (x : Placed) (xs : List Placed) → EachFirst bs (x ∷ xs) → EachFirst (bs ++ (x ∷ [])) xs
rest_of_each bs x xs h k b e = rw append_assoc (h (suc k) b e)

each_of_first : (bs : List Placed) (x : Placed) (xs : List Placed) → FirstFree bs x.claimed x.start → EachFirst (bs ++ (x ∷ [])) xs → EachFirst bs (x ∷ xs)
each_of_first bs x xs f h zero b e = rw (append-nil, ← some_same e) f
each_of_first bs x xs f h (suc k) b e = rw append_assoc at (h k b e)

pub greedy_each_first : (bs : List Placed) (css : List (List Claim)) → EachFirst bs (placed (greedy_after bs css) css)
unfolding greedy_after placed
greedy_each_first bs [] = λ k b e. absurd (none_not_some e)
greedy_each_first bs (cs ∷ css) =
    let x = place (first_free bs cs) cs in
    each_of_first bs x (placed (greedy_after (bs ++ (x ∷ [])) css) css) (first_free_is bs cs) (greedy_each_first (bs ++ (x ∷ [])) css)

pub each_first_greedy : (bs : List Placed) (css : List (List Claim)) (ss : List ℕ) → length ss ≡ length css → EachFirst bs (placed ss css) → ss ≡ greedy_after bs css
unfolding greedy_after placed
each_first_greedy bs [] [] n h = refl
each_first_greedy bs [] (s ∷ ss) n h = absurd (omega arith)
each_first_greedy bs (cs ∷ css) [] n h = absurd (omega arith)
each_first_greedy bs (cs ∷ css) (s ∷ ss) n h =
    let e : s ≡ first_free bs cs = first_free_unique bs cs s (first_free bs cs) (first_of_each bs (place s cs) (placed ss css) h) (first_free_is bs cs) in
    let r : ss ≡ greedy_after (bs ++ (place s cs ∷ [])) css = each_first_greedy (bs ++ (place s cs ∷ [])) css ss (omega arith) (rest_of_each bs (place s cs) (placed ss css) h) in
    ap₂ {C = List ℕ} (λ x xs. x ∷ xs) e (rw (← e) r)

pub length-greedy_after : (bs : List Placed) (css : List (List Claim)) → length (greedy_after bs css) ≡ length css
unfolding greedy_after
length-greedy_after bs [] = refl
length-greedy_after bs (cs ∷ css) = ap suc (length-greedy_after (bs ++ (place (first_free bs cs) cs ∷ [])) css)

-- the starts of the first k packets are those of these packets alone
pub greedy-take : (bs : List Placed) (css : List (List Claim)) (k : ℕ) → take k (greedy_after bs css) ≡ greedy_after bs (take k css)
unfolding greedy_after
greedy-take bs css zero = refl
greedy-take bs [] (suc k) = refl
greedy-take bs (cs ∷ css) (suc k) = ap {B = List ℕ} (λ r. first_free bs cs ∷ r) (greedy-take (bs ++ (place (first_free bs cs) cs ∷ [])) css k)
