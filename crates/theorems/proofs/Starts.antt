-- The greedy starts of a job are the plain ones, and there are no others.
use mathlib.Core.Path.{◌≡◌, sym, ap, ap₂, ◌∙◌}
use mathlib.Core.Bool.{true}
use mathlib.Core.Logic.{◌↔◌}
use mathlib.Core.List.{List, [], map}
use mathlib.Core.Option.{some}
use Prim.Native.Nat.{ℕ, ◌<◌}
use native.Mathlib.Omega.{arith}
use native.Mathlib.Decide.{dec_lt}
use lib.ListN.{length, take, get_elem?, length-map}
use Rattle.counting.proofs.Tests.{any_mem, any_true, false_of_not_true, never_both}
use Rattle.counting.proofs.Places.{take-map, at_mem, mem_at, at_take, at_take-below}
use Rattle.rules.specs.Network.{Packet, Job, packets}
use Rattle.rules.specs.Claims.{Claim, claims_of, claims, Placed, place, conflict, blocked, placed_by}
use Rattle.rules.specs.Greedy.{greedy, greedy_after}
use Rattle.rules.specs.Plain.{Taking, Takes, Conflict, Blocked, Starts}
use Rattle.theorems.proofs.Conflicts.{Means, conflict-iff, conflict_sym, claims_mean}
use Rattle.theorems.proofs.Placements.{placed_by_at, placed_by-split}
use Rattle.theorems.proofs.Greedies.{EachFirst, greedy_each_first, each_first_greedy, length-greedy_after, greedy-take}

module _ {f : Packet → List Claim} {T : Taking} (m : Means f T) where
  -- blocked, over claims, is blocked by a packet listed before
  pub blocked-iff : (ps : List Packet) (ss : List ℕ) (k : ℕ) (p : Packet) (s : ℕ) → (blocked (take k (placed_by f ss ps)) (f p) s ≡ true) ↔ Blocked T ps ss k p s
  unfolding blocked
  blocked-iff ps ss k p s = (
    λ e. let (b, among, conflicts) = any_true (λ b. conflict (place s (f p)) b) (take k xs) e in
        let (i, at) = mem_at among in
        let before = at_take-below xs k i at in
        let st = placed_by-split f ss ps i (sym (at_take xs k i before) ∙ at) in
        record {
          by = i;
          packet = st.packet;
          start = b.start;
          before = before;
          is_packet = st.is_packet;
          is_start = st.is_start;
          conflict = (conflict-iff m s p b.start st.packet).0 (rw st.is_placed at conflicts);
        },
    λ b. any_mem (λ b. conflict (place s (f p)) b)
        (at_mem (take k xs) b.by (at_take xs k b.by b.before ∙ placed_by_at f ss ps b.by b.is_start b.is_packet))
        ((conflict-iff m s p b.start b.packet).1 b.conflict),
  )
    where
      xs : List Placed
      xs = placed_by f ss ps

  pub starts_iff : (ps : List Packet) (ss : List ℕ) → Starts T ps ss ↔ ((length ss ≡ length ps) × EachFirst [] (placed_by f ss ps))
  starts_iff ps ss = (
    λ st. (
      st.count,
      λ k b e. let r = placed_by-split f ss ps k e in
          rw r.is_placed (record {
            free = false_of_not_true _ (λ f. st.free k r.packet b.start r.is_packet r.is_start ((blocked-iff ps ss k r.packet b.start).0 f));
            least = λ t l. (blocked-iff ps ss k r.packet t).1 (st.least k r.packet b.start t r.is_packet r.is_start l);
          }),
    ),
    λ h. record {
      count = h.0;
      free = λ k p s is_packet is_start b. never_both _ ((blocked-iff ps ss k p s).1 b) (h.1 k _ (placed_by_at f ss ps k is_start is_packet)).free;
      least = λ k p s t is_packet is_start l. (blocked-iff ps ss k p t).0 ((h.1 k _ (placed_by_at f ss ps k is_start is_packet)).least t l);
    },
  )

pub length-greedy-claims : (j : Job) → length (greedy j) ≡ length (claims j)
unfolding greedy
length-greedy-claims j = length-greedy_after [] (claims j)

pub length-greedy : (j : Job) → length (greedy j) ≡ length (packets j)
unfolding claims
length-greedy j = length-greedy-claims j ∙ length-map (packets j) (claims_of j.network)

pub greedy_first : (j : Job) → EachFirst [] (placed_by (claims_of j.network) (greedy j) (packets j))
unfolding greedy claims
greedy_first j = greedy_each_first [] (claims j)

pub greedy-Starts : (j : Job) → Starts (Takes j.network) (packets j) (greedy j)
greedy-Starts j = (starts_iff (claims_mean j.network) (packets j) (greedy j)).1 (length-greedy j, greedy_first j)

pub only_greedy_starts : (j : Job) (ss : List ℕ) → Starts (Takes j.network) (packets j) ss → ss ≡ greedy j
unfolding greedy claims
only_greedy_starts j ss st =
    let h = (starts_iff (claims_mean j.network) (packets j) ss).0 st in
    each_first_greedy [] (claims j) ss (h.0 ∙ sym (length-map (packets j) (claims_of j.network))) h.1

-- no two packets of a greedy plan conflict
pub greedy_no_conflict : (j : Job) (i k : ℕ) (p q : Packet) (s t : ℕ) → (i ≡ k → ⊥) → get_elem? (packets j) i ≡ some p → get_elem? (packets j) k ≡ some q → get_elem? (greedy j) i ≡ some s → get_elem? (greedy j) k ≡ some t → Conflict (Takes j.network) s p t q → ⊥
greedy_no_conflict j i k p q s t apart is_p is_q is_s is_t c = go (dec_lt i k)
  where
    go : Dec (i < k) → ⊥
    go (yes l) =
        (greedy-Starts j).free k q t is_q is_t (record { by = i; packet = p; start = s; before = l; is_packet = is_p; is_start = is_s; conflict = conflict_sym c })
    go (no f) =
        (greedy-Starts j).free i p s is_p is_s (record { by = k; packet = q; start = t; before = omega arith; is_packet = is_q; is_start = is_t; conflict = c })

-- the starts up to a packet depend only on what the packets up to it claim
pub greedy-front : (j j' : Job) (n : ℕ) → take n (claims j) ≡ take n (claims j') → take n (greedy j) ≡ take n (greedy j')
unfolding greedy
greedy-front j j' n e = greedy-take [] (claims j) n ∙ ap (greedy_after []) e ∙ sym (greedy-take [] (claims j') n)

-- so with one network they depend only on these packets
pub greedy-front-packets : (j j' : Job) (n : ℕ) → j.network ≡ j'.network → take n (packets j) ≡ take n (packets j') → take n (greedy j) ≡ take n (greedy j')
unfolding claims
greedy-front-packets j j' n net e =
    greedy-front j j' n
    (take-map (claims_of j.network) n (packets j) ∙ ap₂ (λ net ps. map (claims_of net) ps) net e ∙ sym (take-map (claims_of j'.network) n (packets j')))
