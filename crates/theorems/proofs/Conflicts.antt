-- The conflict that computes is the plain one: two packets take one resource in one step.
use mathlib.Core.Path.{◌≡◌, refl, ap, ◌∙◌}
use mathlib.Core.Bool.{true, ◌&&◌}
use mathlib.Core.List.{List, [], ◌∷◌, Memᴰ}
use mathlib.Core.Logic.{◌↔◌}
use mathlib.Core.Option.{Option, some}
use Prim.Native.Nat.{ℕ, zero, suc, ◌+◌}
use native.Mathlib.Omega.{arith}
use lib.Dec.{eqb}
use lib.ListN.{take, get_elem?}
use borrow.Author.Tests.{eqb-true, eq-eqb}
use Rattle.counting.specs.Count.{any_of}
use Rattle.counting.proofs.Tests.{and_left, and_right, and_intro, any_mem, any_true, any_swap}
use Rattle.counting.proofs.Places.{some_same, none_not_some, at_mem, mem_at}
use Rattle.rules.specs.Network.{Network, Packet}
use Rattle.rules.specs.Travel.{delay_of, travel}
use Rattle.rules.specs.Resource.{Resource, same}
use Rattle.rules.specs.Claims.{Claim, link_claims, claims_of, Placed, place, takes, taken, conflict, blocked}
use Rattle.rules.specs.Plain.{Enters, Taking, Takes, Conflict}

-- ---- over any claims

pub same_true : (a b : Resource) → same a b ≡ true → a ≡ b
same_true = eqb-true

pub eq-same : (a b : Resource) → a ≡ b → same a b ≡ true
eq-same = eq-eqb

-- a claim of the resource at the step, among those of the placed packet
abbrev pub ClaimAt : Placed → Resource → ℕ → Type 0
ClaimAt b resource step = (c : Claim) × Memᴰ c b.claimed × (c.resource ≡ resource) × (b.start + c.offset ≡ step)

pub takes-iff_claim : (b : Placed) (resource : Resource) (step : ℕ) → (takes b resource step ≡ true) ↔ ClaimAt b resource step
unfolding takes
takes-iff_claim b resource step = (found, λ t. any_mem _ t.1 (and_intro _ _ (eq-same _ _ t.2) (eq-eqb _ _ t.3)))
  where
    found : takes b resource step ≡ true → ClaimAt b resource step
    found e =
        let t = any_true (λ c. same c.resource resource && eqb (b.start + c.offset) step) b.claimed e in
        let r = same t.0.resource resource in
        let s = eqb (b.start + t.0.offset) step in
        (t.0, t.1, same_true _ _ (and_left r s t.2), eqb-true _ _ (and_right r s t.2))

-- two packets conflict exactly if both take one resource in one step
pub conflict-iff_both_take : (a b : Placed) → (conflict a b ≡ true) ↔ ((resource : Resource) × (step : ℕ) × (takes a resource step ≡ true) × (takes b resource step ≡ true))
unfolding conflict
conflict-iff_both_take a b = (
  λ e. let c = any_true (λ c. takes b c.resource (a.start + c.offset)) a.claimed e in
      (c.0.resource, a.start + c.0.offset, (takes-iff_claim a _ _).1 (c.0, c.1, refl, refl), c.2),
  λ t. let c = (takes-iff_claim a t.0 t.1).0 t.2 in any_mem _ c.1 (rw (c.2, c.3) t.3),
)

-- a packet is blocked exactly if one of its claims is taken
pub blocked-taken : (bs : List Placed) (cs : List Claim) (s : ℕ) → blocked bs cs s ≡ any_of (λ c. taken bs c.resource (s + c.offset)) cs
unfolding blocked conflict taken
blocked-taken bs cs s = any_swap (λ b c. takes b c.resource (s + c.offset)) bs cs

-- ---- what is claimed means what is taken

-- claim by claim, in order: all that follows needs only these two of what packets, or paths, claim
pub record Means {A : Type 0} (f : A → List Claim) (T : ℕ → A → ℕ → Resource → ℕ → Type 0) : Type 0 where
  pub claim_takes : (s : ℕ) (p : A) (at : ℕ) {c : Claim} {r : Resource} {t : ℕ}
      → get_elem? (f p) at ≡ some c → c.resource ≡ r → s + c.offset ≡ t → T s p at r t
  pub takes_claim : (s : ℕ) (p : A) (at : ℕ) {r : Resource} {t : ℕ}
      → T s p at r t → (c : Claim) × (get_elem? (f p) at ≡ some c) × (c.resource ≡ r) × (s + c.offset ≡ t)

module _ {A : Type 0} {f : A → List Claim} {T : ℕ → A → ℕ → Resource → ℕ → Type 0} (m : Means f T) where
  pub takes-iff : (s : ℕ) (p : A) (r : Resource) (t : ℕ) → (takes (place s (f p)) r t ≡ true) ↔ ((at : ℕ) × T s p at r t)
  takes-iff s p r t = (
    λ e. plain ((takes-iff_claim _ _ _).0 e),
    λ e. let c = m.takes_claim s p e.0 e.1 in (takes-iff_claim _ _ _).1 (c.0, at_mem _ e.0 c.1, c.2, c.3),
  )
    where
      plain : ClaimAt (place s (f p)) r t → (at : ℕ) × T s p at r t
      plain c = let i = mem_at c.1 in (i.0, m.claim_takes s p i.0 i.1 c.2 c.3)

module _ {f : Packet → List Claim} {T : Taking} (m : Means f T) where
  pub conflict-iff : (s : ℕ) (p : Packet) (t : ℕ) (q : Packet) → (conflict (place s (f p)) (place t (f q)) ≡ true) ↔ Conflict T s p t q
  conflict-iff s p t q = (
    λ e. let r = (conflict-iff_both_take _ _).0 e in
        let one = (takes-iff m s p _ _).0 r.2 in
        let other = (takes-iff m t q _ _).0 r.3 in
        record { at = one.0; other_at = other.0; resource = r.0; step = r.1; one = one.1; other = other.1 },
    λ c. (conflict-iff_both_take _ _).1 (c.resource, c.step, (takes-iff m s p _ _).1 (c.at, c.one), (takes-iff m t q _ _).1 (c.other_at, c.other)),
  )

pub conflict_sym : {T : Taking} {s : ℕ} {p : Packet} {t : ℕ} {q : Packet} → Conflict T s p t q → Conflict T t q s p
conflict_sym c = record { at = c.other_at; other_at = c.at; resource = c.resource; step = c.step; one = c.other; other = c.one }

-- ---- what this card's packets claim means what they take

-- the link at a hop is claimed after the steps of those before it
link_claim_at : (delay : ℕ → ℕ) (o : ℕ) (path : List ℕ) (hop : ℕ) {link offset : ℕ} → get_elem? path hop ≡ some link → o + travel delay (take hop path) ≡ offset
    → get_elem? (link_claims delay o path) hop ≡ some (record { resource = link; offset = offset })
unfolding link_claims travel
link_claim_at delay o [] hop e d = absurd (none_not_some e)
link_claim_at delay o (l ∷ ls) zero {offset = offset} e d = let d₀ : o ≡ offset = omega arith in rw (some_same e, d₀)
link_claim_at delay o (l ∷ ls) (suc hop) e d = link_claim_at delay (o + delay l) ls hop e (omega arith)

-- and links claim nothing else
at_link_claim : (delay : ℕ → ℕ) (o : ℕ) (path : List ℕ) (hop : ℕ) {c : Claim} → get_elem? (link_claims delay o path) hop ≡ some c
    → (get_elem? path hop ≡ some c.resource) × (o + travel delay (take hop path) ≡ c.offset)
unfolding link_claims travel
at_link_claim delay o [] hop e = absurd (none_not_some e)
at_link_claim delay o (l ∷ ls) zero e =
    let same = some_same e in
    (ap {B = Option ℕ} (λ (c : Claim). some c.resource) same, omega (arith, ap (λ (c : Claim). c.offset) same))
at_link_claim delay o (l ∷ ls) (suc hop) e = let r = at_link_claim delay (o + delay l) ls hop e in (r.0, omega arith)

pub links_mean : (delay : ℕ → ℕ) → Means (link_claims delay 0) (Enters delay)
links_mean delay =
    record {
      claim_takes = λ s path hop e f g. let r = at_link_claim delay 0 path hop e in record { there = r.0 ∙ ap {B = Option ℕ} some f; then_step = omega arith };
      takes_claim = λ s path hop {r} e.
          (record { resource = r; offset = travel delay (take hop path) }, link_claim_at delay 0 path hop e.there (omega arith), refl, e.then_step);
    }

-- the one law that looks into what a packet claims
pub claims_mean : (net : Network) → Means (claims_of net) (Takes net)
unfolding claims_of
claims_mean net =
    let links = links_mean (delay_of net) in
    record { claim_takes = λ s p. links.claim_takes s p.path; takes_claim = λ s p. links.takes_claim s p.path }
