-- The tables accept exactly the jobs of specs/Jobs.antt; and how many paths and hops such a job has.
use mathlib.Core.Path.{◌≡◌, refl, sym, ap}
use mathlib.Core.Bool.{true}
use mathlib.Core.List.{List, [], ◌∷◌, ◌++◌, map, Memᴰ}
use mathlib.Core.Logic.Iff
use mathlib.Core.Logic.{◌↔◌, ◌⊎◌, inl, inr}
use mathlib.Core.Option.{some}
use Prim.Native.Nat.{ℕ, zero, suc, ◌+◌, ◌≤◌, ◌<◌}
use native.Mathlib.Omega.{arith}
use lib.ListN.{length, get_or, get_elem?, length-map}
use lib.Seq.{length-slice}
use Rattle.counting.specs.Count.{sum_of}
use Rattle.counting.proofs.Places.{some_same, none_not_some, at_below, at-get_or, at_snoc, mem_at}
use Rattle.rules.specs.Network.{Network, Packet, Job, paths_from, paths, packets}
use Rattle.rules.specs.Travel.{delay_of, delay_in}
use Rattle.rules.specs.Claims.{link_claims, claims_of, claims}
use Rattle.rules.specs.Outcome.{fine}
use Rattle.rules.specs.Tables.{link_verdict, packet_verdict, links_verdict, packets_verdict, stops_agree, tables}
use Rattle.theorems.specs.Jobs.{AtEach, IsLink, IsPacket, StopsFit, IsJob}
use Rattle.theorems.proofs.Verdicts.{leb_iff, eqb_iff, and_iff, not_iff, must-iff, then_iff}
use Rattle.theorems.proofs.Travels.{Delayed}
use Rattle.theorems.proofs.Packets.{paths_of, paths_of-packets}
use Rattle.theorems.proofs.Paths.{walk-fine-iff}

module _ {A B : Type 0} (P : A → B → Type 0) where
  at_each_cons-iff : (x : A) (xs : List A) (y : B) (ys : List B) → (P x y × AtEach P xs ys) ↔ AtEach P (x ∷ xs) (y ∷ ys)
  at_each_cons-iff x xs y ys = (to, λ h. (h 0 x y refl refl, λ i. h (suc i)))
    where
      to : P x y × AtEach P xs ys → AtEach P (x ∷ xs) (y ∷ ys)
      to t zero u v a b = rw (← some_same a, ← some_same b) t.0
      to t (suc i) u v a b = t.1 i u v a b

  pub at_each_snoc : (xs : List A) {x : A} (ys : List B) {y : B} → length xs ≡ length ys → AtEach P xs ys → P x y → AtEach P (xs ++ (x ∷ [])) (ys ++ (y ∷ []))
  at_each_snoc xs {x} ys {y} e h new i u v a b = go (at_snoc xs x i a) (at_snoc ys y i b)
    where
      go : (get_elem? xs i ≡ some u) ⊎ ((i ≡ length xs) × (x ≡ u)) → (get_elem? ys i ≡ some v) ⊎ ((i ≡ length ys) × (y ≡ v)) → P u v
      go (inl a) (inl b) = h i u v a b
      go (inl a) (inr b) = absurd (omega (arith, at_below xs i a, b.0))
      go (inr a) (inl b) = absurd (omega (arith, at_below ys i b, a.0))
      go (inr a) (inr b) = rw (← a.1, ← b.1) new

-- the test of the stops means that they fit
pub stops_agree-iff : (first : ℕ) (stops : List ℕ) (hops : ℕ) → (stops_agree first stops hops ≡ true) ↔ StopsFit first stops hops
unfolding stops_agree
stops_agree-iff first [] hops = (
  λ e. record { rise = λ i s t a b. absurd (none_not_some b); last = ap some ((eqb_iff first hops).0 e) },
  λ h. (eqb_iff first hops).1 (some_same h.last),
)
stops_agree-iff first (e ∷ es) hops =
    let rise = at_each_cons-iff ◌≤◌ first (e ∷ es) e es in
    Iff.trans (and_iff (leb_iff first e) (stops_agree-iff e es hops)) (
      λ (l, h). record { rise = rise.0 (l, h.rise); last = h.last },
      λ h. let (l, r) = rise.1 h.rise in (l, record { rise = r; last = h.last }),
    )

pub link_fine-iff : (nodes place from to : ℕ) → (link_verdict nodes place from to ≡ fine) ↔ IsLink nodes from to
unfolding link_verdict
link_fine-iff nodes place from to =
    Iff.trans (then_iff (must-iff _ _ (leb_iff _ _)) (then_iff (must-iff _ _ (leb_iff _ _)) (must-iff _ _ (not_iff (eqb_iff _ _)))))
    (λ (from_node, (to_node, apart)). record { from_node = from_node; to_node = to_node; apart = apart }, λ h. (h.from_node, (h.to_node, h.apart)))

pub packet_fine-iff : (net : Network) (place source : ℕ) (path : List ℕ) → (packet_verdict net place source path ≡ fine) ↔ IsPacket net source path
unfolding packet_verdict
packet_fine-iff net place source path =
    Iff.trans
    (then_iff (must-iff _ _ (leb_iff _ _)) (then_iff (must-iff _ _ (leb_iff _ _)) (then_iff (must-iff _ _ (leb_iff _ _)) (walk-fine-iff net place source path)))) (
      λ (short, (source_node, (some_hop, on_path))). record { short = short; source_node = source_node; some_hop = some_hop; on_path = on_path },
      λ h. (h.short, (h.source_node, (h.some_hop, h.on_path))),
    )

links_fine-iff : (nodes k : ℕ) (os es : List ℕ) → (links_verdict nodes k os es ≡ fine) ↔ AtEach (IsLink nodes) os es
unfolding links_verdict
links_fine-iff nodes k [] es = (λ e i x y a b. absurd (none_not_some a), λ h. refl)
links_fine-iff nodes k (o ∷ os) [] = (λ e i x y a b. absurd (none_not_some b), λ h. refl)
links_fine-iff nodes k (o ∷ os) (e ∷ es) = Iff.trans (then_iff (link_fine-iff nodes k o e) (links_fine-iff nodes (suc k) os es)) (at_each_cons-iff (IsLink nodes) o os e es)

packets-fine-iff : (net : Network) (k : ℕ) (ss : List ℕ) (ps : List (List ℕ)) → (packets_verdict net k ss ps ≡ fine) ↔ AtEach (IsPacket net) ss ps
unfolding packets_verdict
packets-fine-iff net k [] ps = (λ e i x y a b. absurd (none_not_some a), λ h. refl)
packets-fine-iff net k (s ∷ ss) [] = (λ e i x y a b. absurd (none_not_some b), λ h. refl)
packets-fine-iff net k (s ∷ ss) (p ∷ ps) = Iff.trans (then_iff (packet_fine-iff net k s p) (packets-fine-iff net (suc k) ss ps)) (at_each_cons-iff (IsPacket net) s ss p ps)

pub tables-fine-iff : (j : Job) → (tables j ≡ fine) ↔ IsJob j
unfolding tables
tables-fine-iff j =
    Iff.trans
    (then_iff (must-iff _ _ (eqb_iff _ _))
    (then_iff (must-iff _ _ (eqb_iff _ _))
    (then_iff (must-iff _ _ (stops_agree-iff 0 j.stops (length j.hops)))
    (then_iff (must-iff _ _ (and_iff (leb_iff _ _) (leb_iff _ _)))
    (then_iff (must-iff _ _ (leb_iff _ _))
    (then_iff (must-iff _ _ (leb_iff _ _))
    (then_iff (must-iff _ _ (leb_iff _ _))
    (then_iff (links_fine-iff _ 0 j.network.origins j.network.ends) (packets-fine-iff j.network 0 j.sources (paths j)))))))))) (
      λ (ends, (stops, (fit, ((least, most), (links, (packets, (hops, (each_link, each_packet)))))))). record {
        ends_count = sym ends;
        stops_count = sym stops;
        stops_fit = fit;
        some_nodes = least;
        few_nodes = most;
        few_links = links;
        few_packets = packets;
        few_hops = hops;
        links = each_link;
        packets = each_packet;
      },
      λ h. (sym h.ends_count, (sym h.stops_count, (h.stops_fit, ((h.some_nodes, h.few_nodes), (h.few_links, (h.few_packets, (h.few_hops, (h.links, h.packets)))))))),
    )

-- of an accepted job they pass it
pub job_stops_agree : (j : Job) → IsJob j → stops_agree 0 j.stops (length j.hops) ≡ true
job_stops_agree j h = (stops_agree-iff 0 j.stops (length j.hops)).1 h.stops_fit

pub length-paths_from : (a : ℕ) (stops hops : List ℕ) → length (paths_from a stops hops) ≡ length stops
unfolding paths_from
length-paths_from a [] hops = refl
length-paths_from a (e ∷ es) hops = omega (arith, length-paths_from e es hops)

pub length-paths : (j : Job) → length (paths j) ≡ length j.stops
unfolding paths
length-paths j = length-paths_from 0 j.stops j.hops

-- the paths that go on from hop a have all hops but the first a
pub hops_from : (a : ℕ) (stops hops : List ℕ) → stops_agree a stops (length hops) ≡ true → sum_of (λ p. length p) (paths_from a stops hops) + a ≡ length hops
unfolding paths_from stops_agree
hops_from a [] hops t = omega (arith, (eqb_iff a (length hops)).0 t)
hops_from a (e ∷ es) hops t =
    let (l, u) = (and_iff (leb_iff a e) Iff.rfl).0 t in
    let r = hops_from e es hops u in
    omega (arith, length-slice a e hops (omega arith))

pub hops_in_all : (j : Job) → IsJob j → sum_of (λ p. length p) (paths j) ≡ length j.hops
unfolding paths
hops_in_all j h = omega (arith, hops_from 0 j.stops j.hops (job_stops_agree j h))

-- every path of an accepted job is some packet's
pub job_path : (j : Job) → IsJob j → {path : List ℕ} → Memᴰ path (paths j) → (source : ℕ) × IsPacket j.network source path
job_path j h m =
    let (k, e) = mem_at m in
    let l : k < length j.sources = omega (arith, at_below (paths j) k e, length-paths j, h.stops_count) in
    (get_or j.sources k 0, h.packets k _ _ (at-get_or j.sources k 0 l) e)

-- its links take as many steps as links may
pub job_delayed : (j : Job) → IsJob j → {path : List ℕ} → Memᴰ path (paths j) → Delayed (delay_in j) path
unfolding delay_of
job_delayed j h m l i = (omega arith, omega arith)

-- and its packets are its paths, each with its source
pub job_packet_paths : (j : Job) → IsJob j → paths_of (packets j) ≡ paths j
unfolding packets
job_packet_paths j h = paths_of-packets j.sources (paths j) (omega (arith, length-paths j, h.stops_count))

pub length-packets : (j : Job) → IsJob j → length (packets j) ≡ length (paths j)
length-packets j h = omega (arith, ap length (job_packet_paths j h), length-map (packets j) (λ p. p.path))

-- and what its packets claim is what the links of its paths do
pub job_claims : (j : Job) → IsJob j → claims j ≡ map (link_claims (delay_in j) 0) (paths j)
unfolding claims claims_of
job_claims j h = rw (← job_packet_paths j h) (go (packets j))
  where
    go : (qs : List Packet) → map (λ (q : Packet). link_claims (delay_in j) 0 q.path) qs ≡ map (link_claims (delay_in j) 0) (paths_of qs)
    go [] = refl
    go (q ∷ qs) = ap (λ r. link_claims (delay_in j) 0 q.path ∷ r) (go qs)
