-- The lead: its steps are those in which the packets enter the link, there is none only where one of them does not, no lead is
-- greater than lead_most either way and one of each sign is that great, and from the other packet's side it is the opposite.
use mathlib.Core.Path.{◌≡◌, refl, sym, ap, ◌∙◌}
use mathlib.Core.Bool.{Bool, true, false, not, cond, false≢true}
use mathlib.Core.List.{List, [], ◌∷◌, ◌++◌, Memᴰ}
use mathlib.Core.Option.{Option, none, some}
use mathlib.Core.Logic.Iff
use mathlib.Core.Logic.{◌↔◌, ◌≢◌, ◌⊎◌, inl, inr, ⊎_elim, ⊎_map}
use Prim.Native.Nat.{ℕ, zero, suc, ◌+◌, ◌-◌, ◌≤◌}
use native.Mathlib.Omega.{arith}
use lib.Dec.{eqb, ltb}
use lib.ListN.{take, get_elem?}
use lib.IntN.{ℤ, pos, negsuc, neg_ℤ, nat_abs, ◌+ℤ◌, ◌-ℤ◌, +ℤ_invr, +ℤ_comm, neg_ℤ-+ℤ, neg_ℤ-neg_ℤ, -ℤ-+ℤ_cancel}
use borrow.Author.Tests.{eqb-true, eq-eqb, ne_eqb, ltb-true}
use Rattle.counting.specs.Count.{pick}
use Rattle.counting.proofs.Tests.{eqb_comm}
use Rattle.counting.proofs.Places.{some_same, none_not_some, at_below, at_mem}
use Rattle.counting.proofs.Distinct.{Distinct, distinct_tail}
use Rattle.rules.specs.Sizes.{start_most, lead_most}
use Rattle.rules.specs.Network.{Job, link_at, paths_from, paths}
use Rattle.rules.specs.Travel.{delay_of, travel}
use Rattle.rules.specs.Outcome.{is, refused, must, ◌then◌, onward}
use Rattle.rules.specs.Tables.{link_verdict, walk, packet_verdict, links_verdict, packets_verdict, stops_agree, tables}
use Rattle.rules.specs.Lead.{entry_step, lead_of, entry_of, entry_at, lead}
use Rattle.rules.specs.Answers.{starts_verdict, started_verdict, led}
use Rattle.rules.specs.Plain.{Enters, EntersAt}
use Rattle.theorems.proofs.Verdicts.{refused_not_is}
use Rattle.theorems.proofs.Travels.{PathsFit, travel-take-le}

-- where there is an entry step, the packet enters the link in it
pub entry_enters : (delay : ℕ → ℕ) (link s : ℕ) (path : List ℕ) (t : ℕ) → entry_step delay link s path ≡ some t → (hop : ℕ) × Enters delay s path hop link t
unfolding entry_step travel
entry_enters delay link s [] t e = absurd (none_not_some e)
entry_enters delay link s (l ∷ ls) t e = go (eqb l link) refl e (entry_enters delay link (s + delay l) ls t)
  where
    go : (b : Bool) → eqb l link ≡ b → pick b (some s) (entry_step delay link (s + delay l) ls) ≡ some t
        → (entry_step delay link (s + delay l) ls ≡ some t → (hop : ℕ) × Enters delay (s + delay l) ls hop link t) → (hop : ℕ) × Enters delay s (l ∷ ls) hop link t
    go true q e r = (0, record { there = ap some (eqb-true l link q); then_step = omega (arith, some_same e) })
    go false q e r = let (hop, later) = r e in (suc hop, record { there = later.there; then_step = omega (arith, later.then_step) })

-- and if no link stands twice on the path, it is the one step in which the packet enters the link
entry_of-hop : (delay : ℕ → ℕ) (link s : ℕ) (path : List ℕ) (hop : ℕ) → Distinct path → get_elem? path hop ≡ some link → entry_step delay link s path ≡ some (s + travel delay (take hop path))
unfolding entry_step travel
entry_of-hop delay link s [] hop d e = absurd (none_not_some e)
entry_of-hop delay link s (l ∷ ls) zero d e = rw (eq-eqb l link (some_same e)) (ap some (omega arith))
entry_of-hop delay link s (l ∷ ls) (suc hop) d e =
    let other : l ≢ link = λ q. omega (arith, d 0 (suc hop) link (ap {B = Option ℕ} some q) e) in
    rw (ne_eqb l link other) (entry_of-hop delay link (s + delay l) ls hop (distinct_tail l ls d) e ∙ ap some (omega arith))

pub enters_entry : (delay : ℕ → ℕ) (link s : ℕ) (path : List ℕ) (hop : ℕ) {t : ℕ} → Distinct path → Enters delay s path hop link t → entry_step delay link s path ≡ some t
enters_entry delay link s path hop d e = entry_of-hop delay link s path hop d e.there ∙ ap {B = Option ℕ} some e.then_step

pub entry_at_enters : (delay : ℕ → ℕ) (starts : List ℕ) (ps : List (List ℕ)) (link k : ℕ) {x : ℕ} → entry_at delay starts ps link k ≡ some x → EntersAt delay ps starts k link x
unfolding entry_at
entry_at_enters delay starts ps link k {x} e = go (get_elem? starts k) (get_elem? ps k) refl refl e
  where
    go : (s : Option ℕ) (p : Option (List ℕ)) → get_elem? starts k ≡ s → get_elem? ps k ≡ p → entry_of delay link s p ≡ some x → EntersAt delay ps starts k link x
    go none p f g e = absurd (none_not_some e)
    go (some s) none f g e = absurd (none_not_some e)
    go (some s) (some p) f g e = let (hop, enters) = entry_enters delay link s p x e in record { start = s; path = p; is_start = f; is_path = g; hop = hop; enters = enters }

pub enters_at_entry : (delay : ℕ → ℕ) (starts : List ℕ) (ps : List (List ℕ)) (link k : ℕ) {x : ℕ} → ((p : List ℕ) → Memᴰ p ps → Distinct p) → EntersAt delay ps starts k link x → entry_at delay starts ps link k ≡ some x
unfolding entry_at
enters_at_entry delay starts ps link k d e =
    rw (e.is_start, e.is_path) (enters_entry delay link e.start e.path e.hop (d e.path (at_mem ps k e.is_path)) e.enters)

-- the last hop of the longest path after the latest start
entry_at-le : (delay : ℕ → ℕ) (starts : List ℕ) (ps : List (List ℕ)) (link k : ℕ) {x : ℕ} → ((s : ℕ) → Memᴰ s starts → s ≤ start_most)
    → PathsFit delay ps → entry_at delay starts ps link k ≡ some x → x ≤ lead_most
entry_at-le delay starts ps link k f g e =
    let r = entry_at_enters delay starts ps link k e in
    let (short, delayed) = g r.path (at_mem ps k r.is_path) in
    omega (
      arith,
      f r.start (at_mem starts k r.is_start),
      short,
      travel-take-le delay r.path r.hop delayed,
      at_below r.path r.hop r.enters.there,
      r.enters.then_step,
    )

-- where there is a lead, both packets enter the link, and it is the difference of their steps
lead_of_entries : (t : Bool) (m n : Option ℕ) (z : ℤ) → must t 13 0 then lead_of m n ≡ is z
    → (x : ℕ) × (y : ℕ) × (m ≡ some x) × (n ≡ some y) × (pos x -ℤ pos y ≡ z)
lead_of_entries true none n z e = absurd (refused_not_is e)
lead_of_entries true (some x) none z e = absurd (refused_not_is e)
lead_of_entries true (some x) (some y) z e = (x, y, refl, refl, cc)
lead_of_entries false m n z e = absurd (refused_not_is e)

abs_sub-le : (x y n : ℕ) → x ≤ n → y ≤ n → nat_abs (pos x -ℤ pos y) ≤ n
abs_sub-le x zero n h l = omega arith
abs_sub-le x (suc y) n h l = go (ltb x (suc y)) refl
  where
    go : (b : Bool) → ltb x (suc y) ≡ b → nat_abs (cond b (negsuc (suc y - suc x)) (pos (x - suc y))) ≤ n
    go true e = omega (arith, ltb-true x (suc y) e)
    go false e = omega arith

-- no lead is below −33,021 or above 33,021
pub lead_in_range : (delay : ℕ → ℕ) (starts : List ℕ) (ps : List (List ℕ)) → ((s : ℕ) → Memᴰ s starts → s ≤ start_most)
    → PathsFit delay ps → (a b link : ℕ) (z : ℤ) → lead delay starts ps a b link ≡ is z → nat_abs z ≤ lead_most
unfolding lead
lead_in_range delay starts ps f g a b link z e =
    let (x, y, p, q, d) = lead_of_entries (not (eqb a b)) _ _ z e in
    rw (← d) (abs_sub-le x y lead_most (entry_at-le delay starts ps link a f g p) (entry_at-le delay starts ps link b f g q))

-- there is none exactly if the two packets are one, or one of the two has no entry step
pub no_lead-iff : (delay : ℕ → ℕ) (starts : List ℕ) (ps : List (List ℕ)) (a b link : ℕ) → (lead delay starts ps a b link ≡ refused 13 0) ↔ ((a ≡ b) ⊎ ((entry_at delay starts ps link a ≡ none) ⊎ (entry_at delay starts ps link b ≡ none)))
unfolding lead
no_lead-iff delay starts ps a b link = Iff.trans (go (eqb a b) _ _) (⊎_map (eqb-true a b) (λ h. h), ⊎_map (eq-eqb a b) (λ h. h))
  where
    go : (t : Bool) (m n : Option ℕ) → (must (not t) 13 0 then lead_of m n ≡ refused 13 0) ↔ ((t ≡ true) ⊎ ((m ≡ none) ⊎ (n ≡ none)))
    go true m n = (λ e. inl refl, λ h. refl)
    go false none n = (λ e. inr (inl refl), λ h. refl)
    go false (some x) none = (λ e. inr (inr refl), λ h. refl)
    go false (some x) (some y) = (
      λ e. absurd (refused_not_is (sym e)),
      ⊎_elim (λ e. absurd (false≢true e)) (⊎_elim (λ e. absurd (none_not_some (sym e))) (λ e. absurd (none_not_some (sym e)))),
    )

pub sub-zero-iff : (x y : ℕ) → (pos x -ℤ pos y ≡ pos 0) ↔ (x ≡ y)
sub-zero-iff x y = (λ d. omega (arith, ap nat_abs (sym (-ℤ-+ℤ_cancel (pos x) (pos y)) ∙ ap (λ z. z +ℤ pos y) d)), λ e. rw e (+ℤ_invr (pos y)))

sub_opposite : (x y : ℕ) → neg_ℤ (pos x -ℤ pos y) ≡ pos y -ℤ pos x
sub_opposite x y = rw (neg_ℤ-+ℤ, neg_ℤ-neg_ℤ) (+ℤ_comm (neg_ℤ (pos x)) (pos y))

lead_of_opposite : (t : Bool) (m n : Option ℕ) → must t 13 0 then lead_of n m ≡ onward (must t 13 0 then lead_of m n) (λ z. is (neg_ℤ z))
lead_of_opposite true none none = refl
lead_of_opposite true none (some y) = refl
lead_of_opposite true (some x) none = refl
lead_of_opposite true (some x) (some y) = ap is (sym (sub_opposite x y))
lead_of_opposite false m n = refl

-- the lead of b over a is the opposite of that of a over b, and refused where that is
pub lead_opposite : (delay : ℕ → ℕ) (starts : List ℕ) (ps : List (List ℕ)) (a b link : ℕ) → lead delay starts ps b a link ≡ onward (lead delay starts ps a b link) (λ z. is (neg_ℤ z))
unfolding lead
lead_opposite delay starts ps a b link = rw (eqb_comm b a) (lead_of_opposite (not (eqb a b)) (entry_at delay starts ps link a) (entry_at delay starts ps link b))

-- the numbers i, i + 1, .., n of them
abbrev pub up_from : ℕ → ℕ → List ℕ
up_from i zero = []
up_from i (suc n) = i ∷ up_from (suc i) n

-- a line of 256 nodes, one packet over all its links and one over the last alone
unfoldable pub long_line : Job
long_line =
    record {
      network = record { nodes = 256; origins = up_from 0 255; ends = up_from 1 255 };
      sources = 0 ∷ 254 ∷ [];
      stops = 255 ∷ 256 ∷ [];
      hops = up_from 0 255 ++ (254 ∷ []);
    }

-- an accepted job with the greatest lead and the least
pub lead_ends_reached : (led long_line (start_most ∷ 0 ∷ []) 0 1 254 ≡ is (pos lead_most)) × (led long_line (start_most ∷ 0 ∷ []) 1 0 254 ≡ is (neg_ℤ (pos lead_most)))
unfolding long_line link_at delay_of paths_from paths link_verdict walk packet_verdict links_verdict packets_verdict stops_agree tables entry_step entry_at lead starts_verdict started_verdict led
lead_ends_reached = (refl, refl)
