-- Every packet entered at its start: then each link's entries are the steps of its hops, in order.
use mathlib.Core.Path.{◌≡◌, refl, sym, ap, ◌∙◌}
use mathlib.Core.Bool.{true, false}
use mathlib.Core.List.{List, [], ◌∷◌, ◌++◌, map, append-nil}
use mathlib.Core.Logic.{⊎_elim}
use Prim.Native.Nat.{ℕ, zero, suc, ◌+◌, ◌-◌, ◌*◌, ◌≤◌, ◌<◌}
use native.Mathlib.Nat.{eq-or-lt_of_le}
use native.Mathlib.Numerals.{add-one}
use native.Mathlib.Omega.{arith}
use lib.Dec.{eqb, leb}
use lib.ListN.{length, get_or, take, drop, length-append, length-drop, drop_of_length-le, get_or-append}
use lib.Seq.{take_all, take-add, get_or-drop}
use borrow.Author.Tests.{ne_eqb, leb-true, leb-false}
use Rattle.std.specs.List.Sorted.{IsPartitionPoint}
use Rattle.counting.specs.Count.{bit, occurs}
use Rattle.counting.proofs.Sums.{sum_append}
use Rattle.counting.proofs.Places.{at-get_or, at_mem}
use Rattle.rules.specs.Sizes.{start_most}
use Rattle.rules.specs.Network.{paths_from}
use Rattle.rules.specs.Travel.{one_step}
use Rattle.rules.specs.Claims.{place}
use Rattle.theorems.proofs.Accepted.{length-paths_from, hops_from}
use Rattle.marks.specs.Marks.{unmarked}
use Rattle.planner.specs.PacketsInLists.{SimplePaths, InTime, OnPath, path_claims, begin_from, path_at, packets}
use Rattle.planner.specs.Entries.{widest, Below, OnLinks, steps_on, Enterable, EntriesBefore, Counted}
use Rattle.planner.specs.Again.{InOrder}
use Rattle.planner.specs.Cuts.{Cuttable}
use Rattle.planner.specs.EntriesAdded.{claim_steps, all_steps, EntriesAdded}
use Rattle.planner.proofs.PathParts.{part}
use Rattle.planner.proofs.Searching.{hops_before}
use Rattle.planner.proofs.StepsInOrder.{all_links, all_links-append, all_as_many, links_of_path, path_as_many}
use Rattle.planner.proofs.EnteringLinks.{EnteredSoFar, entered_turn, entered_done, nexts_done}
use Rattle.planner.proofs.EntriesKept.{hops_from_begin, hops_below}
use Rattle.planner.proofs.Clashing.{drop-cons_at, take-suc_at, placed-le, packet_at}

-- ---- the hops are those of the packets, one after the other

-- past the last packet no hop is left
pub begin_end : (stops hops : List ℕ) → SimplePaths stops hops → begin_from 0 stops (length stops) ≡ length hops
begin_end stops hops simple =
    let ps = paths_from 0 stops hops in
    let every : take (length stops) ps ≡ ps = take_all (length stops) ps (omega (arith, length-paths_from 0 stops hops)) in
    omega (arith, rw every at (hops_before 0 stops hops (length stops) simple.agree (omega arith)), hops_from 0 stops hops simple.agree)

-- a hop is on the path of the packet before which all stop at it or before, if those from there on do not
pub on_path_of : {stops hops : List ℕ} {hop k : ℕ} → SimplePaths stops hops → hop < length hops → k ≤ length stops
    → IsPartitionPoint (λ stop. leb stop hop ≡ true) (λ stop. leb stop hop ≡ false) stops k → OnPath stops hop k
on_path_of {stops} {hops} {hop} {k} simple l near point = record { listed = listed; begun = begun k refl; ahead = ahead }
  where
    begun : (j : ℕ) → j ≡ k → begin_from 0 stops j ≤ hop
    begun zero e = omega arith
    begun (suc j) e = leb-true (get_or stops j 0) hop (point.0 j 0 (omega arith) (omega arith))

    listed : k < length stops
    listed = ⊎_elim (λ q. omega (arith, rw q at (begun k refl), begin_end stops hops simple)) (λ less. less) (eq-or-lt_of_le near)

    ahead : hop < get_or stops k 0
    ahead = leb-false (get_or stops k 0) hop (point.1 k 0 (omega arith) listed)

module _ (stops hops starts : List ℕ) (simple : SimplePaths stops hops) (same : length starts ≡ length stops) where
  -- up to where packet k begins they are those of the packets before it
  pub hops_before_links : (k : ℕ) → k ≤ length stops → take (begin_from 0 stops k) hops ≡ all_links (take k (packets stops hops starts))
  unfolding all_links
  hops_before_links zero l = refl
  hops_before_links (suc k) l =
      let p = part stops hops k simple l _ _ refl refl in
      let b = begin_from 0 stops k in
      let e = get_or stops k 0 in
      let path = path_at stops hops k in
      let there : e ≡ b + (e - b) = omega (arith, p.rises) in
      ap (λ (n : ℕ). take n hops) there ∙ take-add b (e - b) hops
      ∙ rw (← p.links, take-suc_at (packets stops hops starts) k (packet_at stops hops starts k l (omega arith)), all_links-append, hops_before_links k (omega arith))
      (ap (λ (links : List ℕ). all_links (take k (packets stops hops starts)) ++ links) (sym (append-nil _ ∙ links_of_path one_step 0 path)))

  hops_links : hops ≡ all_links (packets stops hops starts)
  hops_links =
      let ps = packets stops hops starts in
      let every : take (length stops) ps ≡ ps = take_all (length stops) ps (omega (arith, placed-le starts (map path_claims (paths_from 0 stops hops)), same)) in
      sym (take_all (begin_from 0 stops (length stops)) hops (omega (arith, begin_end stops hops simple))) ∙ hops_before_links (length stops) (omega arith) ∙ ap all_links every

  steps_as_many : length (all_steps (packets stops hops starts)) ≡ length hops
  steps_as_many = sym (ap length hops_links ∙ all_as_many (packets stops hops starts))

-- ---- packet by packet

-- before packet k the hops from where its path begins are left, in the steps of the packets from it on
pub record EnteredToPacket (stops hops starts nexts₀ steps₀ nexts steps : List ℕ) (k : ℕ) : Type 0 where
  pub so_far : EnteredSoFar hops (all_steps (packets stops hops starts)) nexts₀ steps₀
      (drop (begin_from 0 stops k) hops) (all_steps (drop k (packets stops hops starts))) nexts steps

module _ {stops hops starts nexts₀ steps₀ nexts steps : List ℕ} {k : ℕ} (simple : SimplePaths stops hops) (same : length starts ≡ length stops)
    (w : EnteredToPacket stops hops starts nexts₀ steps₀ nexts steps k) where
  module _ (l : k < length stops) (path : List ℕ) (is_path : path ≡ path_at stops hops k) where
    abbrev rest : List ℕ
    rest = drop (get_or stops k 0) hops

    abbrev start : ℕ
    start = get_or starts k 0

    hops_left : drop (begin_from 0 stops k) hops ≡ path ++ rest
    hops_left = rw is_path (hops_from_begin stops hops simple k l)

    packets_left : drop k (packets stops hops starts) ≡ place start (path_claims path) ∷ drop (suc k) (packets stops hops starts)
    packets_left = rw is_path (drop-cons_at (packets stops hops starts) k (packet_at stops hops starts k l (omega arith)))

    path-below : (n : ℕ) → Below hops n → Below path n
    path-below n below i m =
        let p = part stops hops k simple l _ _ refl refl in
        let b = begin_from 0 stops k in
        let len : length path ≤ length (drop b hops) = omega (arith, ap length hops_left, length-append path rest) in
        let at : get_or path i 0 ≡ get_or hops (b + i) 0 = sym (get_or-append path rest 0 i m) ∙ ap (λ (xs : List ℕ). get_or xs i 0) (sym hops_left) ∙ get_or-drop b hops i 0 in
        rw at (below (b + i) (omega (arith, len, length-drop b hops, m)))

    pub each_ready : InTime starts → Enterable hops start_most nexts₀ (length steps₀) → Enterable path start nexts (length steps)
    each_ready in_time ready = (
      rw w.so_far.nexts_length (path-below _ ready.0),
      omega (arith, in_time start (at_mem starts k (at-get_or starts k 0 (omega arith))), ready.1, ap length hops_left, length-append path rest, length-drop (begin_from 0 stops k) hops),
      omega (arith, w.so_far.steps_length, ready.2),
      λ link. omega (arith, w.so_far.steps_length, ready.3 link, rw hops_left at (w.so_far.counts link), sum_append (λ l. bit (eqb l link)) path rest),
    )

    pub each_turn : {nexts' steps' : List ℕ} → length nexts' ≡ length nexts → length steps' ≡ length steps
        → Counted path nexts nexts'
        → EntriesAdded path (claim_steps (place start (path_claims path))) nexts steps nexts' steps'
        → EnteredToPacket stops hops starts nexts₀ steps₀ nexts' steps' (k + 1)
    unfolding all_steps
    each_turn n s more added = record {
      so_far = rw add-one (entered_turn path (claim_steps (place start (path_claims path))) rest _ (rw (hops_left, packets_left) at w.so_far) (path_as_many start path) n s more added);
    }

  module _ (all : length stops ≤ k) (near : k ≤ length stops) where
    none_left : EnteredSoFar hops (all_steps (packets stops hops starts)) nexts₀ steps₀ [] (all_steps (drop k (packets stops hops starts))) nexts steps
    none_left =
        let last : k ≡ length stops = omega arith in
        rw (drop_of_length-le hops {i = begin_from 0 stops k} (rw last (omega (arith, begin_end stops hops simple)))) at w.so_far

    pub each_added : EntriesAdded hops (all_steps (packets stops hops starts)) nexts₀ steps₀ nexts steps
    each_added = entered_done none_left

    pub each_counted : Counted hops nexts₀ nexts
    each_counted = nexts_done none_left

-- ---- from rooms that nobody has entered

-- no hop is on a number past the links
none_past : (hops : List ℕ) (links link : ℕ) → Below hops links → links ≤ link → occurs link hops ≡ 0
none_past [] links link below past = refl
none_past (l ∷ ls) links link below past =
    rw (ne_eqb l link (λ e. omega (arith, below 0 (omega arith)))) (omega (arith, none_past ls links link (λ i m. below (suc i) (omega arith)) past))

module _ {stops hops starts firsts nexts steps : List ℕ} (simple : SimplePaths stops hops) (same : length starts ≡ length stops)
    (c : EntriesBefore stops hops starts 0 firsts nexts steps) where
  empty : (link : ℕ) → get_or nexts link 0 ≡ get_or firsts link 0
  empty link = omega (arith, c.room_left.rises link, c.room_left.fits link)

  -- every packet may enter
  pub all_enterable : Enterable hops start_most nexts (length steps)
  all_enterable = (
    rw c.nexts_length (hops_below stops hops simple),
    omega (arith, simple.few),
    omega (arith, c.steps_length),
    λ link. omega (arith, empty link, c.rooms.within link, c.steps_length),
  )

  module _ {nexts' steps' : List ℕ} (same_nexts : length nexts' ≡ length nexts) (same_steps : length steps' ≡ length steps)
      (more : Counted hops nexts nexts') where
    -- and then each link's entries stand in the order of the hops
    pub entries_in_order : EntriesAdded hops (all_steps (packets stops hops starts)) nexts steps nexts' steps'
        → InOrder hops (all_steps (packets stops hops starts)) firsts nexts' steps'
    unfolding steps_on
    entries_in_order added = record {
      as_many = steps_as_many stops hops starts simple same;
      same = λ link.
          let none : get_or nexts link 0 - get_or firsts link 0 ≡ 0 = omega (arith, empty link) in
          added _ firsts (rw c.steps_length c.rooms) c.room_left link ∙ rw none;
    }

    -- so it may be asked which is entered again: a step of 16 bits has its bit
    pub again_ready : {links : ℕ} → OnLinks links hops → (words : List ℕ) → ((i : ℕ) → get_or steps' i 0 ≤ widest) → widest < 64 * length words → words ≡ unmarked (length words)
        → Below hops links × Cuttable links firsts nexts' steps' words
    again_ready {links} on words fit enough clear = (
      on.0,
      record {
        few = omega (arith, on.1, c.firsts_length);
        lengths = c.firsts_length ∙ sym (same_nexts ∙ c.nexts_length);
        others = λ link past. omega (arith, more link, empty link, none_past hops links link on.0 past);
        parts = record {
          rises = λ link. omega (arith, more link, empty link);
          within = λ link. omega (arith, more link, empty link, c.rooms.within link, c.steps_length, same_steps);
        };
        marks = (λ i l. omega (arith, fit i, enough), clear);
      },
    )
