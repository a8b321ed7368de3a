-- What the check finds among placed packets, whatever they claim: the lowest packet that conflicts with one before it, at its
-- first taken claim, with the lowest packet that takes it; and nothing exactly if no two packets conflict.
use mathlib.Core.Path.{◌≡◌, refl, sym, ap, ◌∙◌, subst}
use mathlib.Core.Bool.{Bool, true, false, ◌||◌}
use mathlib.Core.List.{List, [], ◌∷◌, ◌++◌, append_assoc, Memᴰ}
use mathlib.Core.Logic.{◌↔◌, ◌≢◌}
use mathlib.Core.Option.{Option, none, some}
use Prim.Native.Nat.{ℕ, zero, suc, ◌+◌, ◌≤◌, ◌<◌}
use native.Mathlib.Omega.{arith}
use lib.ListN.{length, take, get_elem?, length-append, length-take}
use lib.Seq.{take-append_seam}
use Rattle.counting.specs.Count.{any_of, pick}
use Rattle.counting.proofs.Tests.{never_both, any_mem}
use Rattle.counting.proofs.Places.{some_same, none_not_some, at_below, at_mem, at_take, at_append_seam}
use Rattle.rules.specs.Resource.{Resource, same}
use Rattle.rules.specs.Claims.{Claim, Placed, takes, taken, blocked}
use Rattle.rules.specs.Check.{Clash, or_else, holder, clash_with, clash_of, clash_after}
use Rattle.theorems.proofs.Conflicts.{takes-iff_claim, conflict-iff_both_take, blocked-taken}

-- whether there is an answer
abbrev pub found : {A : Type 0} → Option A → Bool
found none = false
found (some a) = true

never_none : {A : Type 0} (o : Option A) {b : Bool} → found o ≡ b → b ≡ true → o ≡ none → ⊥
never_none o f p q = never_both (found o) (f ∙ p) (ap found q)

found-pick : {A : Type 0} (x : Bool) (a : A) (o : Option A) → found (pick x (some a) o) ≡ (x || found o)
found-pick true a o = refl
found-pick false a o = refl

found-or_else : {A : Type 0} (o p : Option A) → found (or_else o p) ≡ (found o || found p)
found-or_else none p = refl
found-or_else (some a) p = refl

found-clash_with : (k : ℕ) (r : Resource) (t : ℕ) (o : Option ℕ) → found (clash_with k r t o) ≡ found o
found-clash_with k r t none = refl
found-clash_with k r t (some e) = refl

-- there is a holder exactly if the resource is taken
pub found-holder : (i : ℕ) (bs : List Placed) (resource : Resource) (step : ℕ) → found (holder i bs resource step) ≡ taken bs resource step
unfolding holder taken
found-holder i [] r t = refl
found-holder i (b ∷ bs) r t = rw (found-pick, found-holder (suc i) bs r t)

-- there is a clash exactly if the packet is blocked
pub found-clash_of : (k : ℕ) (before : List Placed) (s : ℕ) (cs : List Claim) → found (clash_of k before s cs) ≡ blocked before cs s
unfolding clash_of
found-clash_of k before s cs = by_claims cs ∙ sym (blocked-taken before cs s)
  where
    by_claims : (cs : List Claim) → found (clash_of k before s cs) ≡ any_of (λ c. taken before c.resource (s + c.offset)) cs
    by_claims [] = refl
    by_claims (c ∷ cs) = rw (found-or_else, found-clash_with, found-holder, by_claims cs)

-- a bound from below, past a first number that is not meant
above_suc : (P : ℕ → Type 0) {n : ℕ} → (P 0 → ⊥) → ((m : ℕ) → P (suc m) → n ≤ m) → (m : ℕ) → P m → suc n ≤ m
above_suc P first rest zero p = absurd (first p)
above_suc P first rest (suc m) p = omega (arith, rest m p)

-- packet j takes the resource in the step
abbrev pub Holds : List Placed → Resource → ℕ → ℕ → Type 0
Holds bs resource step j = (b : Placed) × (get_elem? bs j ≡ some b) × (takes b resource step ≡ true)

-- packet e, counted from i, takes the resource, and none before it does
abbrev IsHolder : List Placed → Resource → ℕ → ℕ → ℕ → Type 0
IsHolder bs resource step i e = (j : ℕ) × (i + j ≡ e) × Holds bs resource step j × ((m : ℕ) → Holds bs resource step m → j ≤ m)

holder_from_lem : (i : ℕ) (bs : List Placed) (resource : Resource) (step : ℕ) {e : ℕ} → holder i bs resource step ≡ some e → IsHolder bs resource step i e
unfolding holder
holder_from_lem i [] r t h = absurd (none_not_some h)
holder_from_lem i (b ∷ bs) r t {e} h = go (takes b r t) refl h (holder_from_lem (suc i) bs r t)
  where
    go : (x : Bool) → takes b r t ≡ x → pick x (some i) (holder (suc i) bs r t) ≡ some e → (holder (suc i) bs r t ≡ some e → IsHolder bs r t (suc i) e) → IsHolder (b ∷ bs) r t i e
    go true q h rest = (0, omega (arith, some_same h), (b, refl, q), λ m p. omega arith)
    go false q h rest =
        let l = rest h in
        (suc l.0, omega arith, l.2, above_suc (Holds (b ∷ bs) r t) (λ p. never_both (takes b r t) (rw (some_same p.1) p.2) q) l.3)

-- the holder is the lowest packet that takes the resource
pub holder_lowest : (bs : List Placed) (resource : Resource) (step : ℕ) {e : ℕ} → holder 0 bs resource step ≡ some e → Holds bs resource step e × ((m : ℕ) → Holds bs resource step m → e ≤ m)
holder_lowest bs r t {e} q =
    let l = holder_from_lem 0 bs r t q in
    let same : l.0 ≡ e = omega arith in
    rw (← same) (l.2, l.3)

-- claim h of a packet started at s is taken
abbrev TakenClaim : List Placed → ℕ → List Claim → ℕ → Type 0
TakenClaim before s cs h = (c : Claim) × (get_elem? cs h ≡ some c) × (taken before c.resource (s + c.offset) ≡ true)

-- the clash of packet k, started at s, by a claim, with the holder
record ClashBy (k : ℕ) (before : List Placed) (s : ℕ) (c : Claim) (x : Clash) : Type 0 where
  by : ℕ
  held : holder 0 before c.resource (s + c.offset) ≡ some by
  told : record { later = k; earlier = by; resource = c.resource; step = s + c.offset } ≡ x

-- the clash by the first taken claim
abbrev FirstClash : ℕ → List Placed → ℕ → List Claim → Clash → Type 0
FirstClash k before s cs x = (h : ℕ) × (c : Claim) × (get_elem? cs h ≡ some c) × ClashBy k before s c x × ((m : ℕ) → TakenClaim before s cs m → h ≤ m)

clash_of_first : (k : ℕ) (before : List Placed) (s : ℕ) (cs : List Claim) {x : Clash} → clash_of k before s cs ≡ some x → FirstClash k before s cs x
unfolding clash_of
clash_of_first k before s [] q = absurd (none_not_some q)
clash_of_first k before s (c ∷ cs) {x} q = go (holder 0 before r t) refl q (clash_of_first k before s cs)
  where
    r : Resource
    r = c.resource

    t : ℕ
    t = s + c.offset

    free : holder 0 before r t ≡ none → TakenClaim before s (c ∷ cs) 0 → ⊥
    free p z = never_none _ (found-holder 0 before r t) (rw (some_same z.1) z.2) p

    go : (o : Option ℕ) → holder 0 before r t ≡ o → or_else (clash_with k r t o) (clash_of k before s cs) ≡ some x → (clash_of k before s cs ≡ some x → FirstClash k before s cs x) → FirstClash k before s (c ∷ cs) x
    go (some e) p q rest = (0, c, refl, record { by = e; held = p; told = some_same q }, λ m z. omega arith)
    go none p q rest = let l = rest q in (suc l.0, l.1, l.2, l.3, above_suc (TakenClaim before s (c ∷ cs)) (free p) l.4)

-- packet k and packet e, listed before it, take the resource in the step
abbrev pub ConflictOn : List Placed → ℕ → ℕ → Resource → ℕ → Type 0
ConflictOn bs k e resource step = (e < k) × Holds bs resource step k × Holds bs resource step e

-- that packet is among those before packet k
conflict-before : (bs : List Placed) (k e : ℕ) (r : Resource) (t : ℕ) (m : ConflictOn bs k e r t) → Memᴰ m.2.0 (take k bs)
conflict-before bs k e r t m = at_mem (take k bs) e (at_take bs k e m.0 ∙ m.2.1)

conflict-blocked : (bs : List Placed) (k e : ℕ) (r : Resource) (t : ℕ) {b : Placed} → get_elem? bs k ≡ some b → ConflictOn bs k e r t → blocked (take k bs) b.claimed b.start ≡ true
unfolding blocked
conflict-blocked bs k e r t q m =
    any_mem _ (conflict-before bs k e r t m) ((conflict-iff_both_take _ _).1 (r, t, rw (some_same (sym q ∙ m.1.1)) m.1.2, m.2.2))

-- packet k conflicts with one before it
abbrev Conflicting : List Placed → ℕ → Type 0
Conflicting bs k = (e : ℕ) × (r : Resource) × (t : ℕ) × ConflictOn bs k e r t

-- the clash of the lowest packet from n on that conflicts with one before it
abbrev Lowest : List Placed → ℕ → Option Clash → Type 0
Lowest bs n none = (k : ℕ) → n ≤ k → Conflicting bs k → ⊥
Lowest bs n (some x) = (k : ℕ) × (b : Placed) × (get_elem? bs k ≡ some b) × (clash_of k (take k bs) b.start b.claimed ≡ some x) × ((m : ℕ) → n ≤ m → Conflicting bs m → k ≤ m)

-- past packet n, which conflicts with none
lowest_past : (bs : List Placed) (n : ℕ) (o : Option Clash) → (Conflicting bs n → ⊥) → Lowest bs (suc n) o → Lowest bs n o
lowest_past bs n o alone = go o
  where
    next : (k : ℕ) → n ≤ k → Conflicting bs k → suc n ≤ k
    next k l m = let other : n ≢ k = λ q. alone (rw q m) in omega arith

    go : (o : Option Clash) → Lowest bs (suc n) o → Lowest bs n o
    go none f = λ k l m. f k (next k l m) m
    go (some x) f = (f.0, f.1, f.2, f.3, λ k l m. f.4 k (next k l m) m)

clash_after_lem : (bs before rest : List Placed) → before ++ rest ≡ bs → Lowest bs (length before) (clash_after before rest)
unfolding clash_after
clash_after_lem bs before [] e = λ k l m. omega (arith, at_below bs k m.3.1.1, ap length e, length-append before [])
clash_after_lem bs before (b ∷ rest) e =
    go (clash_of n before b.start b.claimed) refl (rw one_more at (clash_after_lem bs (before ++ b ∷ []) rest (append_assoc before (b ∷ []) rest ∙ e)))
  where
    n : ℕ
    n = length before

    one_more : length (before ++ b ∷ []) ≡ suc n
    one_more = omega (arith, length-append before (b ∷ []))

    is_b : get_elem? bs n ≡ some b
    is_b = rw (← e) (at_append_seam before b rest)

    is_before : take n bs ≡ before
    is_before = rw (← e) (take-append_seam before (b ∷ rest))

    alone : clash_of n before b.start b.claimed ≡ none → Conflicting bs n → ⊥
    alone q m =
        let stopped = rw is_before at (conflict-blocked bs n m.0 m.1 m.2 is_b m.3) in
        never_none _ (found-clash_of n before b.start b.claimed) stopped q

    go : (o : Option Clash) → clash_of n before b.start b.claimed ≡ o → Lowest bs (suc n) (clash_after (before ++ b ∷ []) rest) → Lowest bs n (or_else o (clash_after (before ++ b ∷ []) rest))
    go (some x) q r = (n, b, is_b, rw is_before q, λ m l z. l)
    go none q r = lowest_past bs n (clash_after (before ++ b ∷ []) rest) (alone q) r

-- the clash that the check shows: of the lowest packet that conflicts with one before it, at its first taken claim, with the
-- lowest packet that takes it
pub record Seen (bs : List Placed) (x : Clash) : Type 0 where
  pub packet : Placed
  pub at : ℕ
  pub claim : Claim
  pub is_packet : get_elem? bs x.later ≡ some packet
  pub is_claim : get_elem? packet.claimed at ≡ some claim
  pub is_resource : claim.resource ≡ x.resource
  pub is_step : packet.start + claim.offset ≡ x.step
  pub conflict : ConflictOn bs x.later x.earlier x.resource x.step
  pub lowest : (k e : ℕ) (r : Resource) (t : ℕ) → ConflictOn bs k e r t → x.later ≤ k
  pub first : (h : ℕ) (c : Claim) (e : ℕ) → get_elem? packet.claimed h ≡ some c → ConflictOn bs x.later e c.resource (packet.start + c.offset) → at ≤ h
  pub lowest_there : (e : ℕ) → ConflictOn bs x.later e x.resource x.step → x.earlier ≤ e

seen : (bs : List Placed) (k : ℕ) (b : Placed) {x : Clash} → get_elem? bs k ≡ some b → FirstClash k (take k bs) b.start b.claimed x → ((m : ℕ) → 0 ≤ m → Conflicting bs m → k ≤ m) → Seen bs x
unfolding taken
seen bs k b q o lowest =
    let (at, c, is_c, clash, first) = o in
    let r = c.resource in
    let t = b.start + c.offset in
    let h = holder_lowest (take k bs) r t clash.held in
    let l : clash.by < k = omega (arith, at_below (take k bs) clash.by h.0.1, length-take k bs) in
    subst (λ (x : Clash). Seen bs x) clash.told (record {
      packet = b;
      at = at;
      claim = c;
      is_packet = q;
      is_claim = is_c;
      is_resource = refl;
      is_step = refl;
      conflict = (l, (b, q, (takes-iff_claim b r t).1 (c, at_mem _ at is_c, refl, refl)), rw (at_take bs k clash.by l) at h.0);
      lowest = λ m e r t z. lowest m (omega arith) (e, r, t, z);
      first = λ m d e is_d z. first m (d, is_d, any_mem _ (conflict-before bs k e _ _ z) z.2.2);
      lowest_there = λ e z. h.1 e (rw (at_take bs k e z.0) z.2);
    })

pub clash_seen : (bs : List Placed) {x : Clash} → clash_after [] bs ≡ some x → Seen bs x
clash_seen bs {x} q =
    let f : Lowest bs 0 (some x) = rw q at (clash_after_lem bs [] bs refl) in
    seen bs f.0 f.1 f.2 (clash_of_first _ _ _ _ f.3) f.4

pub clear_iff_no_conflict : (bs : List Placed) → (clash_after [] bs ≡ none) ↔ ((k e : ℕ) (r : Resource) (t : ℕ) → ConflictOn bs k e r t → ⊥)
clear_iff_no_conflict bs = (λ q k e r t m. (rw q at (clash_after_lem bs [] bs refl)) k (omega arith) (e, r, t, m), go (clash_after [] bs) refl)
  where
    go : (o : Option Clash) → clash_after [] bs ≡ o → ((k e : ℕ) (r : Resource) (t : ℕ) → ConflictOn bs k e r t → ⊥) → clash_after [] bs ≡ none
    go none q f = q
    go (some x) q f = absurd (f _ _ _ _ (clash_seen bs q).conflict)
