-- What is left of the check after each turn: of the packets listed before one, of one packet's hops, and of all packets.
use mathlib.Core.Path.{◌≡◌, refl, sym, ap, ◌∙◌}
use mathlib.Core.Bool.{Bool, true, false, true≢false, false≢true}
use mathlib.Core.List.{List, [], ◌∷◌, ◌++◌, map}
use mathlib.Core.Option.{Option as Maybe, none, some}
use Rattle.std.specs.Prelude.{Option, Some, None, MatchOption}
use Prim.Native.Nat.{ℕ, zero, suc, ◌+◌, ◌≤◌, ◌<◌}
use native.Mathlib.Omega.{arith}
use native.Mathlib.Numerals.{add-one}
use lib.ListN.{length, get_or, take, drop, get_elem?, length-take, drop_of_length-le}
use lib.Seq.{drop-cons, drop-length, length-take-le}
use Rattle.counting.specs.Count.{pick}
use Rattle.counting.proofs.Places.{some_same, none_not_some, at_below, at-get_or, at_take}
use Rattle.rules.specs.Network.{paths_from}
use Rattle.rules.specs.Travel.{one_step}
use Rattle.rules.specs.Claims.{Claim, link_claims, Placed, place, placed, taken}
use Rattle.rules.specs.Check.{Clash, or_else, holder, clash_with, clash_of, clash_after}
use Rattle.theorems.proofs.Clashes.{found, found-holder}
use Rattle.theorems.proofs.Placements.{take-placed_by, placed_by_at}
use Rattle.theorems.proofs.Accepted.{length-paths_from}
use Rattle.planner.specs.Told.{held_by}
use Rattle.planner.specs.PacketsInLists.{path_claims, path_at, packet_enters, packets, before}

-- a list cut before what stands at i, and after it
pub drop-cons_at : {A : Type 0} (xs : List A) (i : ℕ) {x : A} → get_elem? xs i ≡ some x → drop i xs ≡ x ∷ drop (suc i) xs
drop-cons_at [] i e = absurd (none_not_some e)
drop-cons_at (y ∷ ys) zero e = let same = some_same e in cc
drop-cons_at (y ∷ ys) (suc i) e = drop-cons_at ys i e

pub take-suc_at : {A : Type 0} (xs : List A) (i : ℕ) {x : A} → get_elem? xs i ≡ some x → take (suc i) xs ≡ take i xs ++ (x ∷ [])
take-suc_at [] i e = absurd (none_not_some e)
take-suc_at (y ∷ ys) zero e = let same = some_same e in cc
take-suc_at (y ∷ ys) (suc i) e = rw (take-suc_at ys i e)

pub placed-le : (ss : List ℕ) (css : List (List Claim)) → length (placed ss css) ≤ length ss
unfolding placed
placed-le [] css = omega arith
placed-le (s ∷ ss) [] = omega arith
placed-le (s ∷ ss) (cs ∷ css) = omega (arith, placed-le ss css)

module _ (stops hops starts : List ℕ) (k : ℕ) where
  pub packet_at : k < length stops → k < length starts → get_elem? (packets stops hops starts) k ≡ some (place (get_or starts k 0) (path_claims (path_at stops hops k)))
  unfolding path_at
  packet_at l m =
      placed_by_at path_claims starts (paths_from 0 stops hops) k (at-get_or starts k 0 m) (at-get_or (paths_from 0 stops hops) k [] (omega (arith, length-paths_from 0 stops hops)))

  pub before-take : before stops hops starts k ≡ take k (packets stops hops starts)
  unfolding before
  before-take = sym (take-placed_by path_claims k starts (paths_from 0 stops hops))

-- ---- the holder of a link, sought from packet j on

abbrev pub holder_from : (stops hops starts : List ℕ) (k link step j : ℕ) → Maybe ℕ
holder_from stops hops starts k link step j = holder j (drop j (before stops hops starts k)) link step

module _ (stops hops starts : List ℕ) (k : ℕ) (few : k ≤ length stops) (enough : k ≤ length starts) (link step : ℕ) where
  abbrev entered_by : ℕ → Bool
  entered_by j = packet_enters stops hops starts j link step

  holder_turn : (j : ℕ) → j < k → holder_from stops hops starts k link step j ≡ pick (entered_by j) (some j) (holder_from stops hops starts k link step (suc j))
  unfolding holder packet_enters
  holder_turn j l = rw (drop-cons_at (before stops hops starts k) j there)
    where
      there : get_elem? (before stops hops starts k) j ≡ some (place (get_or starts j 0) (path_claims (path_at stops hops j)))
      there = rw (before-take stops hops starts k, at_take (packets stops hops starts) k j l) (packet_at stops hops starts j (omega arith) (omega arith))

  -- packets that do not enter the link in the step leave it to the next
  holder_until : (j : ℕ) → j ≤ k → ((i : ℕ) → i < j → entered_by i ≡ false) → holder_from stops hops starts k link step 0 ≡ holder_from stops hops starts k link step j
  holder_until zero l free = refl
  holder_until (suc j) l free = holder_until j (omega arith) (λ i m. free i (omega arith)) ∙ holder_turn j l ∙ rw (free j (omega arith))

  holder_nowhere : holder_from stops hops starts k link step k ≡ none
  unfolding holder
  holder_nowhere =
      let short : length (before stops hops starts k) ≤ k = omega (arith, ap length (before-take stops hops starts k), length-take k (packets stops hops starts)) in
      rw (drop_of_length-le (before stops hops starts k) short)

  -- the first that does is the holder
  pub holder_found : (found : Option ℕ)
      → MatchOption found ((j : ℕ) → j < k → entered_by j ≡ false) (λ j. (j < k) × (entered_by j ≡ true) × ((i : ℕ) → i < j → entered_by i ≡ false))
      → held_by found ≡ holder 0 (before stops hops starts k) link step
  holder_found None free = sym (holder_until k (omega arith) free ∙ holder_nowhere)
  holder_found (Some j) (l, here, free) = sym (holder_until j (omega arith) free ∙ holder_turn j l ∙ rw here)

-- a link that is not taken has no holder
free_held : (bs : List Placed) (link step : ℕ) → taken bs link step ≡ false → holder 0 bs link step ≡ none
free_held bs link step t = not_found _ (found-holder 0 bs link step ∙ t)
  where
    not_found : (o : Maybe ℕ) → found o ≡ false → o ≡ none
    not_found none e = refl
    not_found (some a) e = absurd (true≢false e)

-- and a clash with a holder comes before all others
pub held_first : (k link step : ℕ) (o : Maybe ℕ) (p : Maybe Clash) → found o ≡ true → or_else (clash_with k link step o) p ≡ clash_with k link step o
held_first k link step none p e = absurd (false≢true e)
held_first k link step (some a) p e = refl

-- ---- the clash of packet k, sought from a hop on

abbrev clash_from : ℕ → List Placed → ℕ → List ℕ → ℕ → Maybe Clash
clash_from k bs s path hop = clash_of k bs s (link_claims one_step hop (drop hop path))

-- whether a hop's link is taken in its step
abbrev pub taken_hop : List Placed → ℕ → List ℕ → ℕ → Bool
taken_hop bs s path hop = taken bs (get_or path hop 0) (s + hop)

module _ (k : ℕ) (bs : List Placed) (s : ℕ) (path : List ℕ) where
  clash_turn : (hop : ℕ) → hop < length path → clash_from k bs s path hop ≡ or_else (clash_with k (get_or path hop 0) (s + hop) (holder 0 bs (get_or path hop 0) (s + hop))) (clash_from k bs s path (suc hop))
  unfolding clash_of link_claims
  clash_turn hop l = rw (drop-cons path hop 0 l, add-one hop)

  -- hops that are not taken leave it to the next
  clash_until : (hop : ℕ) → hop ≤ length path → ((h : ℕ) → h < hop → taken_hop bs s path h ≡ false) → clash_from k bs s path 0 ≡ clash_from k bs s path hop
  clash_until zero l free = refl
  clash_until (suc hop) l free = clash_until hop (omega arith) (λ h m. free h (omega arith)) ∙ clash_turn hop l ∙ rw (free_held _ _ _ (free hop (omega arith)))

  pub clash_nowhere : ((h : ℕ) → h < length path → taken_hop bs s path h ≡ false) → clash_of k bs s (path_claims path) ≡ none
  unfolding clash_of link_claims
  clash_nowhere free = clash_until (length path) (omega arith) free ∙ rw (drop-length path)

  -- the first that is taken has it
  pub clash_first : (hop : ℕ) → hop < length path → ((h : ℕ) → h < hop → taken_hop bs s path h ≡ false) → taken_hop bs s path hop ≡ true
      → clash_of k bs s (path_claims path) ≡ clash_with k (get_or path hop 0) (s + hop) (holder 0 bs (get_or path hop 0) (s + hop))
  clash_first hop l free t =
      clash_until hop (omega arith) free ∙ clash_turn hop l
      ∙ held_first k (get_or path hop 0) (s + hop) (holder 0 bs (get_or path hop 0) (s + hop)) _ (found-holder 0 bs _ _ ∙ t)

-- ---- the first clash, sought from packet k on

abbrev pub clashes_from : List Placed → ℕ → Maybe Clash
clashes_from bs k = clash_after (take k bs) (drop k bs)

clashes_turn : (bs : List Placed) (k : ℕ) {b : Placed} → get_elem? bs k ≡ some b → clashes_from bs k ≡ or_else (clash_of k (take k bs) b.start b.claimed) (clashes_from bs (suc k))
unfolding clash_after
clashes_turn bs k e =
    let l = at_below bs k e in
    let many : k ≤ length bs = omega arith in
    rw (drop-cons_at bs k e, take-suc_at bs k e, length-take-le k bs many)

module _ (stops hops starts : List ℕ) (same : length starts ≡ length stops) (k : ℕ) where
  -- the clash of packet k, at its own start, with those listed before it
  abbrev pub clash_at : Maybe Clash
  clash_at = clash_of k (before stops hops starts k) (get_or starts k 0) (path_claims (path_at stops hops k))

  pub first_turn : k < length stops → clashes_from (packets stops hops starts) k ≡ or_else clash_at (clashes_from (packets stops hops starts) (suc k))
  first_turn l = rw (before-take stops hops starts k) (clashes_turn (packets stops hops starts) k (packet_at stops hops starts k l (omega arith)))

  pub first_nowhere : length stops ≤ k → clashes_from (packets stops hops starts) k ≡ none
  unfolding clash_after
  first_nowhere l =
      let short : length (packets stops hops starts) ≤ k = omega (arith, placed-le starts (map path_claims (paths_from 0 stops hops))) in
      rw (drop_of_length-le (packets stops hops starts) short)
