-- What the text reader accepts, the tables accept: each line keeps a job a job. And later lines leave the packets of earlier
-- ones as they are.
use mathlib.Core.Path.{◌≡◌, refl, sym, ◌∙◌}
use mathlib.Core.Bool.{true}
use mathlib.Core.List.{List, [], ◌∷◌, ◌++◌, append-nil, append_assoc, map-append}
use mathlib.Core.Logic.Iff
use Prim.Native.Nat.{ℕ, suc, ◌+◌, ◌≤◌, ◌<◌}
use native.Mathlib.Omega.{arith}
use lib.ListN.{length, take, length-append}
use lib.Seq.{take-append_seam, take-append-add, take-append-le, take-length, drop_at}
use Rattle.counting.proofs.Places.{none_not_some, at_below, nil_of_length}
use Rattle.rules.specs.Sizes.{nodes_most, links_most, packets_most, hops_most}
use Rattle.rules.specs.Network.{Job, paths_from, paths, packets_of, packets}
use Rattle.rules.specs.Claims.{Claim, claims_of, claims}
use Rattle.rules.specs.Outcome.{is, fine}
use Rattle.rules.specs.Tables.{stops_agree, tables}
use Rattle.rules.specs.Bytes.{line_feed, split}
use Rattle.rules.specs.JobText.{Line, nodes, link, packet, bad, line_of, blank, with_link, with_packet, with_line, with_lines, first_line, all_lines, reading}
use Rattle.theorems.specs.Jobs.{IsLink, IsPacket, IsJob}
use Rattle.theorems.proofs.Verdicts.{leb_iff, eqb_iff, and_iff, is_iff, refused_not_is, onward_is, must-iff, then_iff}
use Rattle.theorems.proofs.Packets.{packets_of-snoc}
use Rattle.theorems.proofs.TextLinesAccepted.{reading_lines_iff, first_line-iff, link_line-iff, packet_line-iff}
use Rattle.theorems.proofs.Accepted.{at_each_snoc, stops_agree-iff, tables-fine-iff, job_stops_agree, length-paths, hops_from}

-- one more stop, at the new end of the hops
stops_agree-snoc : (a : ℕ) (stops : List ℕ) (m n : ℕ) → m ≤ n → stops_agree a stops m ≡ true → stops_agree a (stops ++ (n ∷ [])) n ≡ true
unfolding stops_agree
stops_agree-snoc a [] m n l t = let e = (eqb_iff a m).0 t in (and_iff (leb_iff a n) (eqb_iff n n)).1 (omega arith, refl)
stops_agree-snoc a (e ∷ es) m n l t =
    let (b, u) = (and_iff (leb_iff a e) Iff.rfl).0 t in
    (and_iff (leb_iff a e) Iff.rfl).1 (b, stops_agree-snoc e es m n l u)

-- the path that it stops is what was put behind the hops
paths_from-snoc : (a : ℕ) (stops hops path : List ℕ) → stops_agree a stops (length hops) ≡ true → paths_from a (stops ++ ((length hops + length path) ∷ [])) (hops ++ path) ≡ paths_from a stops hops ++ (path ∷ [])
unfolding paths_from stops_agree
paths_from-snoc a [] hops path t = rw (take-append-add, take-length, drop_at hops path a (sym ((eqb_iff a (length hops)).0 t)))
paths_from-snoc a (e ∷ es) hops path t =
    let (b, u) = (and_iff (leb_iff a e) Iff.rfl).0 t in
    let l : e ≤ length hops = omega (arith, hops_from e es hops u) in
    rw (take-append-le e hops path, paths_from-snoc e es hops path u)

pub paths-with_packet : (j : Job) → IsJob j → (source : ℕ) (path : List ℕ) → paths (with_packet j source path) ≡ paths j ++ (path ∷ [])
unfolding paths
paths-with_packet j h source path = paths_from-snoc 0 j.stops j.hops path (job_stops_agree j h)

blank_job : (n : ℕ) → 1 ≤ n → n ≤ nodes_most → IsJob (blank n)
unfolding stops_agree
blank_job n a b = record {
  ends_count = refl;
  stops_count = refl;
  stops_fit = (stops_agree-iff 0 [] 0).0 refl;
  some_nodes = a;
  few_nodes = b;
  few_links = omega arith;
  few_packets = omega arith;
  few_hops = omega arith;
  links = λ l o e x. absurd (none_not_some x);
  packets = λ k s p x. absurd (none_not_some x);
}

-- the second job is accepted, and what the packets of the first claim stands in front of what its own claim
pub record GoesOn (j k : Job) : Type 0 where
  pub job : IsJob k
  more : List (List Claim)
  front : claims k ≡ claims j ++ more

goes_on_self : {j : Job} → IsJob j → GoesOn j j
goes_on_self h = record { job = h; more = []; front = sym (append-nil _) }

goes_on_trans : {i j k : Job} → GoesOn i j → GoesOn j k → GoesOn i k
goes_on_trans a b = record { job = b.job; more = a.more ++ b.more; front = rw (b.front, a.front, append_assoc) }

module _ (j : Job) (h : IsJob j) where
  -- a link comes only while there is no packet, so nothing is claimed before it
  goes_on_link : (from to : ℕ) → length j.sources ≡ 0 → length j.network.origins < links_most → IsLink j.network.nodes from to → GoesOn j (with_link j from to)
  unfolding claims packets packets_of
  goes_on_link from to first room new = record {
    job = record {
      ends_count = simp length-append (omega (arith, h.ends_count));
      stops_count = h.stops_count;
      stops_fit = h.stops_fit;
      some_nodes = h.some_nodes;
      few_nodes = h.few_nodes;
      few_links = simp length-append (omega arith);
      few_packets = h.few_packets;
      few_hops = h.few_hops;
      links = at_each_snoc (IsLink j.network.nodes) j.network.origins j.network.ends (sym h.ends_count) h.links new;
      packets = λ k s p x. absurd (omega (arith, at_below j.sources k x));
    };
    more = [];
    front = rw (← nil_of_length j.sources first);
  }

  goes_on_packet : (source : ℕ) (path : List ℕ) → length j.sources < packets_most → length j.hops + length path ≤ hops_most → IsPacket j.network source path → GoesOn j (with_packet j source path)
  unfolding claims packets
  goes_on_packet source path room hops new = record {
    job = record {
      ends_count = h.ends_count;
      stops_count = simp length-append (omega (arith, h.stops_count));
      stops_fit = (stops_agree-iff 0 _ _).0 (simp length-append (stops_agree-snoc 0 j.stops (length j.hops) (length j.hops + length path) (omega arith) (job_stops_agree j h)));
      some_nodes = h.some_nodes;
      few_nodes = h.few_nodes;
      few_links = h.few_links;
      few_packets = simp length-append (omega arith);
      few_hops = simp length-append hops;
      links = h.links;
      packets = rw (paths-with_packet j h source path) (at_each_snoc (IsPacket j.network) j.sources (paths j) (sym (length-paths j ∙ h.stops_count)) h.packets new);
    };
    more = claims_of j.network (record { source = source; path = path }) ∷ [];
    front = rw (paths-with_packet j h source path, packets_of-snoc j.sources source (paths j) path (sym (length-paths j ∙ h.stops_count)), map-append);
  }

  pub goes_on_line : (n : ℕ) (l : Line) (k : Job) → with_line n j l ≡ is k → GoesOn j k
  unfolding with_line
  goes_on_line n (nodes m) k e = absurd (refused_not_is e)
  goes_on_line n (link from to) k e =
      let (first, (room, (new, r))) = (link_line-iff n j from to k).0 e in
      rw (← r) (goes_on_link from to first room new)
  goes_on_line n (packet source path) k e =
      let (room, (hops, (new, r))) = (packet_line-iff n j source path k).0 e in
      rw (← r) (goes_on_packet source path room hops new)
  goes_on_line n bad k e = absurd (refused_not_is e)

goes_on_lines : (n : ℕ) (p : List ℕ) (ps : List (List ℕ)) (j k : Job) → IsJob j → with_lines n j p ps ≡ is k → GoesOn j k
unfolding with_lines
goes_on_lines n p [] j k h e = let (t, r) = (then_iff (must-iff 2 n (eqb_iff (length p) 0)) is_iff).0 e in rw (← r) (goes_on_self h)
goes_on_lines n p (q ∷ ps) j k h e =
    let (i, a, b) = onward_is (with_line n j (line_of p)) (λ i. with_lines (suc n) i q ps) e in
    let s = goes_on_line j h n (line_of p) i a in
    goes_on_trans s (goes_on_lines (suc n) q ps i k s.job b)

pub first_job : (l : Line) (j : Job) → first_line l ≡ is j → IsJob j
first_job (nodes n) j e =
    let ((a, b), r) = (first_line-iff n j).0 e in
    rw (← r) (blank_job n a b)
first_job (link from to) j e = absurd (refused_not_is e)
first_job (packet source path) j e = absurd (refused_not_is e)
first_job bad j e = absurd (refused_not_is e)

all_lines_job : (ps : List (List ℕ)) (j : Job) → all_lines ps ≡ is j → IsJob j
all_lines_job [] j e = absurd (refused_not_is e)
all_lines_job (p ∷ []) j e = absurd (refused_not_is e)
all_lines_job (p ∷ q ∷ ps) j e =
    let (i, a, b) = onward_is (first_line (line_of p)) (λ i. with_lines 2 i q ps) e in
    (goes_on_lines 2 q ps i j (first_job (line_of p) i a) b).job

pub reading_job : (text : List ℕ) (j : Job) → reading text ≡ is j → IsJob j
reading_job text j e = all_lines_job (split line_feed text) j ((reading_lines_iff text j).0 e).1

pub reading_accepted : (text : List ℕ) (j : Job) → reading text ≡ is j → tables j ≡ fine
reading_accepted text j e = (tables-fine-iff j).1 (reading_job text j e)

-- what a job's packets claim stays in front of what later lines add
pub text_front : (n : ℕ) (j : Job) (p : List ℕ) (ps : List (List ℕ)) (k : Job) → IsJob j → with_lines n j p ps ≡ is k → take (length (claims j)) (claims k) ≡ claims j
text_front n j p ps k h e = let s = goes_on_lines n p ps j k h e in rw (s.front, take-append_seam)
