-- The rules' verdicts on lists as the code comes by them. Of each loop, what the rest of its lists is at a turn and after the
-- last; of each chain of tests, a law for every way out.
use Rattle.std.proofs.Common.{◌≡◌, ℕ, zero, suc, ◌+◌, ◌-◌, ◌≤◌, ◌<◌, min, Bool, true, false, not, ◌&&◌, ◌||◌, eqb, leb, nat_lt, Option, Some, None, unwrap_or, List, [], ◌∷◌, ◌++◌, length, get_or, slice_get, take, drop, refl, sym, ap, ◌∙◌, add-one, sub-one, arith}
use Rattle.std.specs.List.{IsAllAdjacentAnswer, filter_map, cons_option, list_any, position, position_from}
use Rattle.std.proofs.Math.Bool.{and-false}
use Rattle.std.proofs.Math.ListN.{get_elem?, drop_of_length-le}
use Rattle.std.proofs.Math.Nat.{sub-zero, zero-sub, suc-sub-suc}
use Rattle.std.proofs.Math.Option.{Option as Maybe, none, some}
use Rattle.std.proofs.Math.Seq.{take-suc, take-nil, slice}
use Rattle.std.proofs.lemmas.Iterator.Adapters.{position_from-zero}
use Rattle.std.proofs.lemmas.List.Elements.{filter_map-append}
use Rattle.std.proofs.lemmas.Option.{unwrap_or-slice_get}
use native.Mathlib.Decide.{dec_lt}
use borrow.Author.Tests.{leb-true, leb-false, lt-leb, le-leb, lt-ltb, le-ltb, eq-eqb, eqb-true, ne_eqb}
use Rattle.counting.specs.Count.{among}
use Rattle.counting.proofs.Tests.{and_left, and_right}
use Rattle.counting.proofs.Places.{from_place, some_same, none_not_some}
use Rattle.theorems.proofs.Accepted.{hops_from}
use Rattle.theorems.proofs.Verdicts.{onward_then}
use Rattle.rules.specs.Sizes.{nodes_most, links_most, packets_most, hops_most, start_most}
use Rattle.rules.specs.Network.{Network, Link, Job, link_of, link_at, paths_from, paths}
use Rattle.rules.specs.Outcome.{Verdict, is, fine, refused, must, ◌then◌}
use Rattle.rules.specs.Tables.{link_verdict, links_verdict, walk, packet_verdict, packets_verdict, stops_agree, tables}
use Rattle.rules.specs.Answers.{starts_verdict}
use Rattle.job.specs.Lists.{is_node, entered, lists_agree, sizes_fit}
use Rattle.job.proofs.Pairs.{AtPair}
use Rattle.job.proofs.AfterVerdict.{refusal_stays, after_fine}

-- tests with one refusal are one test
must_and : (s t : Bool) (n p : ℕ) (o : Verdict) → (must (s && t) n p then o) ≡ (must s n p then must t n p then o)
must_and true t n p o = refl
must_and false t n p o = refl

-- the nodes that the links enter, one link more
pub entered-more : (ends links : List ℕ) (link to : ℕ) → slice_get ends link ≡ Some to → entered ends (links ++ (link ∷ [])) ≡ entered ends links ++ (to ∷ [])
unfolding entered
entered-more ends links link to e = rw (filter_map-append, e)

-- whether one of the links enters the node
pub any_enters : (ends : List ℕ) (node : ℕ) (links : List ℕ) → list_any (λ l. is_node (slice_get ends l) node) links ≡ among node (entered ends links)
unfolding entered
any_enters ends node [] = refl
any_enters ends node (l ∷ ls) = elim (slice_get ends l) as (λ o. (is_node o node || list_any (λ l. is_node (slice_get ends l) node) ls) ≡ among node (cons_option o (filter_map (slice_get ends) ls))) [
  | None ↦ any_enters ends node ls
  | Some n ↦ ap (λ b. eqb n node || b) (any_enters ends node ls)
]

-- a link that is there ends where the list of ends says
pub link_end : (net : Network) (l : ℕ) {link : Link} → link_at net l ≡ some link → slice_get net.ends l ≡ Some link.to
unfolding link_at
link_end net l {link} e = go (get_elem? net.origins l) (get_elem? net.ends l) refl e
  where
    got : (xs : List ℕ) (i : ℕ) {x : ℕ} → get_elem? xs i ≡ some x → slice_get xs i ≡ Some x
    got [] i q = absurd (none_not_some q)
    got (x ∷ xs) zero q = ap Some (some_same q)
    got (x ∷ xs) (suc i) q = got xs i q

    go : (o e : Maybe ℕ) → get_elem? net.ends l ≡ e → link_of o e ≡ some link → slice_get net.ends l ≡ Some link.to
    go none e q d = absurd (none_not_some d)
    go (some o) none q d = absurd (none_not_some d)
    go (some o) (some e) q d = got net.ends l q ∙ ap (λ k. Some k.to) (some_same d)

-- the walk that is left from hop p on, with the nodes that the hops before it enter
module _ (net : Network) (path : List ℕ) (source place : ℕ) where
  abbrev pub walk_left : (reached p : ℕ) → Verdict
  walk_left reached p = walk net place reached (source ∷ entered net.ends (take p path)) (drop p path)

  pub walk_begins : walk net place source (source ∷ []) path ≡ walk_left source 0
  unfolding entered
  walk_begins = refl

  module _ (reached p : ℕ) {l : ℕ} (e : l ≡ get_or path p 0) (h : p < length path) where
    pub walk_no_link : link_at net l ≡ none → walk_left reached p ≡ refused 6 place
    unfolding walk
    walk_no_link n = rw (from_place path p, ← e, n)

    module _ {from to : ℕ} (k : some (record { from = from; to = to }) ≡ link_at net l) where
      walk-hop : walk_left reached p ≡ (must (eqb from reached) 7 place then must (not (among to (source ∷ entered net.ends (take p path)))) 8 place then walk_left to (p + 1))
      unfolding walk
      walk-hop = rw (from_place path p, add-one p, take-suc path p 0, ← e, entered-more net.ends (take p path) l to (link_end net l (sym k)), ← k, onward_then, onward_then)

      pub walk_not_leaving : (from ≡ reached → ⊥) → walk_left reached p ≡ refused 7 place
      walk_not_leaving m = rw (walk-hop, ne_eqb _ _ m)

      module _ (m : from ≡ reached) {seen : Bool} (s : seen ≡ among to (source ∷ entered net.ends (take p path))) where
        pub walk_revisited : seen ≡ true → walk_left reached p ≡ refused 8 place
        walk_revisited a = rw (walk-hop, eq-eqb _ _ m, ← s, a)

        pub walk_on : seen ≡ false → walk_left reached p ≡ walk_left to (p + 1)
        walk_on a = rw (walk-hop, eq-eqb _ _ m, ← s, a)

  pub walk_done : (reached p : ℕ) → length path ≤ p → walk_left reached p ≡ fine
  unfolding walk
  walk_done reached p h = rw (drop_of_length-le path h)

-- stops of which none is less than the one before it agree with the last one
rising : (last : ℕ) (stops : List ℕ) (hops : ℕ) → ((k : ℕ) → k < length stops → get_or (last ∷ stops) k 0 ≤ get_or stops k 0)
    → stops_agree last stops hops ≡ eqb (get_or (last ∷ stops) (length stops) 0) hops
unfolding stops_agree
rising last [] hops h = refl
rising last (stop ∷ stops) hops h = rw (le-leb last stop (h 0 (omega arith))) (rising stop stops hops (λ k l. h (suc k) (omega arith)))

pub rising_agree : (stops : List ℕ) (hops : ℕ) → ((k : ℕ) → k + 1 < length stops → get_or stops k 0 ≤ get_or stops (k + 1) 0) → stops_agree 0 stops hops ≡ eqb (get_or stops (length stops - 1) 0) hops
unfolding stops_agree
rising_agree [] hops h = refl
rising_agree (stop ∷ stops) hops h =
    rw (le-leb 0 stop (omega arith), sub-one (suc (length stops)))
    (rising stop stops hops (λ k l. let here = h k (omega arith) in rw (add-one k) at here))

-- and one that is less spoils them
falling : (last : ℕ) (stops : List ℕ) (hops k : ℕ) → k < length stops → get_or stops k 0 < get_or (last ∷ stops) k 0 → stops_agree last stops hops ≡ false
unfolding stops_agree
falling last [] hops k l h = absurd (omega arith)
falling last (stop ∷ stops) hops zero l h = rw (lt-leb last stop h)
falling last (stop ∷ stops) hops (suc k) l h = rw (falling stop stops hops k (omega arith) h, and-false)

pub stops_fall : (stops : List ℕ) (hops k : ℕ) → k + 1 < length stops → get_or stops (k + 1) 0 < get_or stops k 0 → stops_agree 0 stops hops ≡ false
unfolding stops_agree
stops_fall [] hops k l h = absurd (omega arith)
stops_fall (stop ∷ stops) hops k l h = rw (falling stop stops hops k (omega arith) (rw (add-one k) at h), and-false)

-- so whether they rise, and the last one, say whether they agree
pub sorted_stops : (stops : List ℕ) (hops : ℕ) (sorted : Bool) → IsAllAdjacentAnswer (λ x y b. b ≡ leb x y) stops sorted
    → stops_agree 0 stops hops ≡ (sorted && eqb (unwrap_or (slice_get stops (length stops - 1)) 0) hops)
sorted_stops stops hops true h = rw unwrap_or-slice_get (rising_agree stops hops (λ k l. leb-true _ _ (sym (h k 0 l))))
sorted_stops stops hops false h = stops_fall stops hops h.0 h.1 (leb-false _ _ (sym (h.2 0)))

-- the stops from the k-th on
stops_turn : (hops last : ℕ) (stops : List ℕ) (k : ℕ) {stop : ℕ} → stop ≡ get_or stops k 0 → k < length stops
    → stops_agree last (drop k stops) hops ≡ (leb last stop && stops_agree stop (drop (k + 1) stops) hops)
unfolding stops_agree
stops_turn hops last stops k e h = rw (from_place stops k, ← e)

-- the part of a list that code lends is the part that the rules cut
pub part_slice : (f t : ℕ) (xs : List ℕ) → take (t - f) (drop f xs) ≡ slice f t xs
part_slice zero t xs = rw sub-zero
part_slice (suc f) zero xs = rw zero-sub
part_slice (suc f) (suc t) [] = take-nil (suc t - suc f)
part_slice (suc f) (suc t) (x ∷ xs) = rw suc-sub-suc (part_slice f t xs)

-- a path of stops that agree lies within the hops, and the stops after it agree too
pub stops_part : (hops : List ℕ) (from : ℕ) (stops : List ℕ) (k : ℕ) {to : ℕ} → to ≡ get_or stops k 0 → k < length stops → stops_agree from (drop k stops) (length hops) ≡ true
    → (from ≤ to) × (to ≤ length hops) × (stops_agree to (drop (k + 1) stops) (length hops) ≡ true)
stops_part hops from stops k {to} e h a =
    let b = sym (stops_turn (length hops) from stops k e h) ∙ a in
    let r = and_right (leb from to) (stops_agree to (drop (k + 1) stops) (length hops)) b in
    (leb-true from to (and_left (leb from to) _ b), omega (arith, hops_from to (drop (k + 1) stops) hops r), r)

-- the packets from the k-th on, the first path beginning at from
module _ (net : Network) (sources stops hops : List ℕ) where
  abbrev pub packets_left : (from k : ℕ) → Verdict
  packets_left from k = packets_verdict net k (drop k sources) (paths_from from (drop k stops) hops)

  module _ (from k : ℕ) {p : ℕ × (ℕ × ℕ)} (at : AtPair sources stops k p) {to : ℕ} (e : to ≡ p.1.1) where
    abbrev packet_here : Verdict
    packet_here = packet_verdict net p.0 p.1.0 (take (to - from) (drop from hops))

    packets_turn : packets_left from k ≡ (packet_here then packets_left to (k + 1))
    unfolding packets_verdict paths_from
    packets_turn = rw (e, at.number, at.one, at.other, from_place sources k at.first, from_place stops k at.second, add-one k, part_slice)

    pub packets_refused : {number place : ℕ} → refused number place ≡ packet_here → packets_left from k ≡ refused number place
    packets_refused e = packets_turn ∙ sym (refusal_stays e _)

    pub packets_on : {u : Unit} → is u ≡ packet_here → packets_left from k ≡ packets_left to (k + 1)
    packets_on e = packets_turn ∙ after_fine e _

  pub packets_done : (from k : ℕ) → length sources ≤ k → packets_left from k ≡ fine
  unfolding packets_verdict
  packets_done from k h = rw (drop_of_length-le sources h)

-- the links from the l-th on
module _ (nodes : ℕ) (origins ends : List ℕ) where
  abbrev pub links_left : (l : ℕ) → Verdict
  links_left l = links_verdict nodes l (drop l origins) (drop l ends)

  module _ (l : ℕ) {p : ℕ × (ℕ × ℕ)} (at : AtPair origins ends l p) where
    abbrev link_here : Verdict
    link_here = link_verdict nodes p.0 p.1.0 p.1.1

    links_turn : links_left l ≡ (link_here then links_left (l + 1))
    unfolding links_verdict
    links_turn = rw (at.number, at.one, at.other, from_place origins l at.first, from_place ends l at.second, add-one l)

    pub links_refused : {number place : ℕ} → refused number place ≡ link_here → links_left l ≡ refused number place
    links_refused e = links_turn ∙ sym (refusal_stays e _)

    pub links_on : {u : Unit} → is u ≡ link_here → links_left l ≡ links_left (l + 1)
    links_on e = links_turn ∙ after_fine e _

  no_ends : (l : ℕ) (origins : List ℕ) → links_verdict nodes l origins [] ≡ fine
  unfolding links_verdict
  no_ends l [] = refl
  no_ends l (o ∷ os) = refl

  no_origins : (l : ℕ) (ends : List ℕ) → links_verdict nodes l [] ends ≡ fine
  unfolding links_verdict
  no_origins l ends = refl

  pub links_done : (l : ℕ) → l ≡ min (length origins) (length ends) → links_left l ≡ fine
  links_done l e = elim (dec_lt l (length origins)) [
    | yes h ↦ rw (drop_of_length-le ends {i = l} (omega arith)) (no_ends l (drop l origins))
    | no h ↦ rw (drop_of_length-le origins {i = l} (omega arith)) (no_origins l (drop l ends))
  ]

-- what is wrong with starts of which the first that is too late stands there, if one is
abbrev pub late_at : Option ℕ → Verdict
late_at None = fine
late_at (Some packet) = refused 12 packet

first_late_from : (k : ℕ) (starts : List ℕ) → starts_verdict k starts ≡ late_at (position_from (nat_lt start_most) k starts)
unfolding starts_verdict
first_late_from k [] = refl
first_late_from k (s ∷ ss) = elim (dec_lt start_most s) [
  | yes l ↦ rw (lt-leb s start_most l, lt-ltb start_most s l)
  | no h ↦ rw (le-leb s start_most (omega arith), le-ltb start_most s (omega arith), add-one k) (first_late_from (suc k) ss)
]

pub first_late : (starts : List ℕ) → starts_verdict 0 starts ≡ late_at (position (nat_lt start_most) starts)
first_late starts = first_late_from 0 starts ∙ ap late_at (sym (position_from-zero (nat_lt start_most) starts))

-- the ways out of the tables
module _ (j : Job) where
  pub agree_within : lists_agree j ≡ true → (length j.sources ≡ length j.stops) × (stops_agree 0 j.stops (length j.hops) ≡ true)
  agree_within e =
      let origins = eqb (length j.network.origins) (length j.network.ends) in
      let sources = eqb (length j.sources) (length j.stops) in
      let stops = stops_agree 0 j.stops (length j.hops) in
      (eqb-true _ _ (and_right origins sources (and_left (origins && sources) stops e)), and_right (origins && sources) stops e)

  pub job_within : sizes_fit j ≡ true → (length j.network.origins ≤ links_most) × (length j.sources ≤ packets_most)
  job_within e =
      let nodes = leb 1 j.network.nodes && leb j.network.nodes nodes_most in
      let links = leb (length j.network.origins) links_most in
      let packets = leb (length j.sources) packets_most in
      let p = and_left (nodes && links && packets) (leb (length j.hops) hops_most) e in
      (leb-true _ links_most (and_right nodes links (and_left (nodes && links) packets p)), leb-true _ packets_most (and_right (nodes && links) packets p))

  abbrev pub links_then_packets : Verdict
  links_then_packets = links_verdict j.network.nodes 0 j.network.origins j.network.ends then packets_verdict j.network 0 j.sources (paths j)

  pub tables_in_order : tables j ≡ (must (lists_agree j) 9 0 then must (sizes_fit j) 3 0 then links_then_packets)
  unfolding tables
  tables_in_order = simp must_and
