-- The check is clear exactly if no two packets take one resource in one step; else it shows a true conflict, of the lowest
-- packet, at its first conflicting place, with the lowest earlier packet there: the one and only.
use mathlib.Core.Path.{◌≡◌, sym, ap, ◌∙◌}
use mathlib.Core.List.{List, []}
use mathlib.Core.Logic.{◌↔◌}
use mathlib.Core.Option.{none, some}
use Prim.Native.Nat.{ℕ, ◌+◌, ◌≤◌}
use native.Mathlib.Omega.{arith}
use Rattle.counting.proofs.Places.{some_same}
use Rattle.rules.specs.Network.{Packet}
use Rattle.rules.specs.Resource.{Resource, same}
use Rattle.rules.specs.Claims.{Claim, Placed, place, placed_by}
use Rattle.rules.specs.Check.{Clash, clash_after}
use Rattle.rules.specs.Plain.{Taking, TakesAt, ConflictAt, Shown}
use Rattle.theorems.proofs.Conflicts.{Means, takes-iff}
use Rattle.theorems.proofs.Placements.{placed_by_at, placed_by-split}
use Rattle.theorems.proofs.Clashes.{Holds, ConflictOn, Seen, clash_seen, clear_iff_no_conflict}

-- at one place a packet takes one resource in one step
takes_one : {f : Packet → List Claim} {T : Taking} → Means f T → (s : ℕ) (p : Packet) (at : ℕ) {r : Resource} {t : ℕ} {r' : Resource} {t' : ℕ} → T s p at r t → T s p at r' t' → (r ≡ r') × (t ≡ t')
takes_one m s p at a b =
    let (c, is_c, rc, tc) = m.takes_claim s p at a in
    let (d, is_d, rd, td) = m.takes_claim s p at b in
    let same : c ≡ d = some_same (sym is_c ∙ is_d) in
    (sym rc ∙ ap (λ (c : Claim). c.resource) same ∙ rd, sym tc ∙ ap (λ (c : Claim). s + c.offset) same ∙ td)

module _ {f : Packet → List Claim} {T : Taking} (m : Means f T) (ps : List Packet) (ss : List ℕ) where
  -- a packet that holds a resource in a step takes it then
  holds_takes : {k : ℕ} {r : Resource} {t : ℕ} → Holds (placed_by f ss ps) r t k → (at : ℕ) × TakesAt T ps ss k at r t
  holds_takes {k} {r} {t} (b, at, takes) =
      let st = placed_by-split f ss ps k at in
      let plain = (takes-iff m b.start st.packet r t).0 (rw st.is_placed at takes) in
      (plain.0, record { start = b.start; packet = st.packet; is_start = st.is_start; is_packet = st.is_packet; takes = plain.1 })

  takes_holds : {k at : ℕ} {r : Resource} {t : ℕ} → TakesAt T ps ss k at r t → Holds (placed_by f ss ps) r t k
  takes_holds {k} {at} e = (place e.start (f e.packet), placed_by_at f ss ps k e.is_start e.is_packet, (takes-iff m _ _ _ _).1 (at, e.takes))

  conflict_plain : {k e : ℕ} {r : Resource} {t : ℕ} → ConflictOn (placed_by f ss ps) k e r t → (at : ℕ) × ConflictAt T ps ss k at e r t
  conflict_plain (before, later, earlier) =
      let l = holds_takes later in
      let o = holds_takes earlier in
      (l.0, record { before = before; other_at = o.0; later = l.1; earlier = o.1 })

  plain_conflict : {k at e : ℕ} {r : Resource} {t : ℕ} → ConflictAt T ps ss k at e r t → ConflictOn (placed_by f ss ps) k e r t
  plain_conflict c = (c.before, takes_holds c.later, takes_holds c.earlier)

  pub check_clear_iff : (clash_after [] (placed_by f ss ps) ≡ none) ↔ ((k at e : ℕ) (r : Resource) (t : ℕ) → ConflictAt T ps ss k at e r t → ⊥)
  check_clear_iff = (
    λ q k at e r t c. (clear_iff_no_conflict _).0 q k e r t (plain_conflict c),
    λ h. (clear_iff_no_conflict _).1 (λ k e r t z. let c = conflict_plain z in h k c.0 e r t c.1),
  )

  -- the claim of a packet that is taken there
  first_place : {x : Clash} (s : Seen (placed_by f ss ps) x) {at e : ℕ} {r : Resource} {t : ℕ} → ConflictAt T ps ss x.later at e r t → s.at ≤ at
  first_place {x} s {at} {e} c =
      let k = c.later in
      let same : s.packet ≡ place k.start (f k.packet) = some_same (sym s.is_packet ∙ placed_by_at f ss ps x.later k.is_start k.is_packet) in
      let start : s.packet.start ≡ k.start = ap (λ (b : Placed). b.start) same in
      let (d, is_d, is_r, is_t) = m.takes_claim k.start k.packet at k.takes in
      s.first at d e (rw same is_d) (rw (start, is_r, is_t) (plain_conflict c))

  pub check_shows : (x : Clash) → clash_after [] (placed_by f ss ps) ≡ some x → Shown T ps ss x.later x.earlier x.resource x.step
  check_shows x q =
      let s = clash_seen _ q in
      let st = placed_by-split f ss ps x.later s.is_packet in
      let mine = m.claim_takes s.packet.start st.packet s.at (rw (← ap (λ (b : Placed). b.claimed) st.is_placed) s.is_claim) s.is_resource s.is_step in
      let other = conflict_plain s.conflict in
      record {
        at = s.at;
        true_conflict = record {
          before = other.1.before;
          other_at = other.1.other_at;
          later = record { packet = st.packet; start = s.packet.start; is_packet = st.is_packet; is_start = st.is_start; takes = mine };
          earlier = other.1.earlier;
        };
        lowest = λ k at e r t c. s.lowest k e r t (plain_conflict c);
        first = λ at e r t c. first_place s c;
        lowest_there = λ e c. s.lowest_there e (plain_conflict c);
      }

module _ {f : Packet → List Claim} {T : Taking} (m : Means f T) {ps : List Packet} {ss : List ℕ} where
  one-taken : {k at e : ℕ} {r : Resource} {t e' : ℕ} {r' : Resource} {t' : ℕ} → ConflictAt T ps ss k at e r t → ConflictAt T ps ss k at e' r' t' → (r ≡ r') × (t ≡ t')
  one-taken {at = at} a b =
      takes_one m a.later.start a.later.packet at a.later.takes
      (rw (some_same (sym a.later.is_start ∙ b.later.is_start), some_same (sym a.later.is_packet ∙ b.later.is_packet)) b.later.takes)

  pub shown_unique : {k e : ℕ} {r : Resource} {t k' e' : ℕ} {r' : Resource} {t' : ℕ} → Shown T ps ss k e r t → Shown T ps ss k' e' r' t' → (k ≡ k') × (e ≡ e') × (r ≡ r') × (t ≡ t')
  shown_unique {k} {e} {r} {t} {k'} {e'} {r'} {t'} a b =
      let same_packet : k ≡ k' = omega (arith, a.lowest _ _ _ _ _ b.true_conflict, b.lowest _ _ _ _ _ a.true_conflict) in
      let b₁ : Shown T ps ss k e' r' t' = rw same_packet b in
      let same_place : b₁.at ≡ a.at = omega (arith, a.first _ _ _ _ b₁.true_conflict, b₁.first _ _ _ _ a.true_conflict) in
      let c : ConflictAt T ps ss k a.at e' r' t' = rw same_place at b₁.true_conflict in
      let (same_resource, same_step) = one-taken a.true_conflict c in
      let d : ConflictAt T ps ss k b₁.at e r' t' = rw (same_place, ← same_resource, ← same_step) a.true_conflict in
      let c₂ : ConflictAt T ps ss k a.at e' r t = rw (same_resource, same_step) c in
      (same_packet, omega (arith, a.lowest_there _ c₂, b₁.lowest_there _ d), same_resource, same_step)
