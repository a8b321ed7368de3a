-- Document 01, "Refusals and their order", Check: clear, or the clash that is shown.
use Rattle.std.specs.Prelude.{List, [], ◌∷◌, ◌++◌, ℕ, suc, ◌+◌, length}
use Rattle.std.proofs.Math.Option.{Option, none, some}
use Rattle.counting.specs.Count.{pick}
use Rattle.rules.specs.Resource.{Resource}
use Rattle.rules.specs.Claims.{Claim, Placed, takes}

-- packet `later` conflicts with packet `earlier`, listed before it, on the resource (the link's number) in the step
pub record Clash : Type 0 where
  pub later : ℕ
  pub earlier : ℕ
  pub resource : Resource
  pub step : ℕ

abbrev pub or_else : {A : Type 0} → Option A → Option A → Option A
or_else none o = o
or_else (some a) o = some a

-- the lowest-numbered of those placed, numbered from i, that takes the resource in the step
unfoldable pub holder : ℕ → List Placed → Resource → ℕ → Option ℕ
holder i [] resource step = none
holder i (b ∷ bs) resource step = pick (takes b resource step) (some i) (holder (suc i) bs resource step)

abbrev pub clash_with : ℕ → Resource → ℕ → Option ℕ → Option Clash
clash_with k resource step none = none
clash_with k resource step (some e) = some (record { later = k; earlier = e; resource = resource; step = step })

-- the first conflicting claim of packet k, started at s, with the lowest of those before it there
unfoldable pub clash_of : ℕ → List Placed → ℕ → List Claim → Option Clash
clash_of k before s [] = none
clash_of k before s (c ∷ cs) =
    or_else (clash_with k c.resource (s + c.offset) (holder 0 before c.resource (s + c.offset))) (clash_of k before s cs)

-- the clash of the lowest-numbered packet that conflicts with one before it
unfoldable pub clash_after : List Placed → List Placed → Option Clash
clash_after before [] = none
clash_after before (b ∷ rest) = or_else (clash_of (length before) before b.start b.claimed) (clash_after (before ++ (b ∷ [])) rest)
