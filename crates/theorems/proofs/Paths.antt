-- The walk accepts exactly the paths of specs/Path.antt. The links of a path exist, and none comes twice.
use mathlib.Core.Path.{◌≡◌, refl, ap, ◌∙◌}
use mathlib.Core.Bool.{false}
use mathlib.Core.List.{List, [], ◌∷◌, ◌++◌, append-nil, Memᴰ}
use mathlib.Core.Logic.Iff
use mathlib.Core.Logic.{◌↔◌}
use mathlib.Core.Option.{Option, none, some}
use Prim.Native.Nat.{ℕ, zero, suc, ◌≤◌, ◌<◌}
use native.Mathlib.Omega.{arith}
use native.Mathlib.Nat.{suc_inj}
use lib.ListN.{length, get_elem?}
use lib.Seq.{append_snoc}
use Rattle.counting.specs.Count.{among, occurs}
use Rattle.counting.proofs.Places.{some_same, none_not_some, at_below, at-get_or, mem_at}
use Rattle.counting.proofs.Distinct.{Distinct, distinct_snoc, distinct_new, distinct_occurs}
use Rattle.rules.specs.Network.{Network, link_of, link_at}
use Rattle.rules.specs.Path.{IsPath}
use Rattle.rules.specs.Outcome.{is, fine}
use Rattle.rules.specs.Tables.{hop, walk}
use Rattle.theorems.proofs.Verdicts.{eqb_iff, not_true_iff, refused_not_is, is_iff, must-iff, then_iff, onward_is, onward_of}

-- a path from the node reached on, through the nodes that follow; none of those seen so far is visited again
record Trail (net : Network) (seen : List ℕ) (reached : ℕ) (path nodes : List ℕ) : Type 0 where
  count : length nodes ≡ length path
  leaves : (p l v : ℕ) → get_elem? path p ≡ some l → get_elem? (reached ∷ nodes) p ≡ some v → get_elem? net.origins l ≡ some v
  enters : (p l v : ℕ) → get_elem? path p ≡ some l → get_elem? nodes p ≡ some v → get_elem? net.ends l ≡ some v
  once : Distinct (seen ++ nodes)

-- one hop from the node reached, along a link with this origin and this end
record Hop (reached : ℕ) (seen : List ℕ) (origin end : Option ℕ) (node : ℕ) : Type 0 where
  leaves : origin ≡ some reached
  enters : end ≡ some node
  new : among node seen ≡ false

hop_is_iff : (place reached : ℕ) (seen : List ℕ) (o e : Option ℕ) (node : ℕ) → (hop place reached seen (link_of o e) ≡ is node) ↔ Hop reached seen o e node
hop_is_iff place reached seen none e node = (λ h. absurd (refused_not_is h), λ h. absurd (none_not_some h.leaves))
hop_is_iff place reached seen (some o) none node = (λ h. absurd (refused_not_is h), λ h. absurd (none_not_some h.enters))
hop_is_iff place reached seen (some o) (some e) node =
    Iff.trans (then_iff (must-iff _ _ (eqb_iff o reached)) (then_iff (must-iff _ _ (not_true_iff (among e seen))) is_iff)) (
      λ (same, (new, there)). record { leaves = ap {B = Option ℕ} some same; enters = ap {B = Option ℕ} some there; new = rw (← there) new },
      λ h. (some_same h.leaves, (rw (some_same h.enters) h.new, some_same h.enters)),
    )

-- a trail with one hop more in front, and with one less
trail_cons : {net : Network} {seen : List ℕ} {reached node : ℕ} {path nodes : List ℕ} (l : ℕ)
    → get_elem? net.origins l ≡ some reached → get_elem? net.ends l ≡ some node
    → Trail net (seen ++ (node ∷ [])) node path nodes → Trail net seen reached (l ∷ path) (node ∷ nodes)
trail_cons {net} {seen} {reached} {node} {path} {nodes} l o e t =
    record { count = ap suc t.count; leaves = leaves; enters = enters; once = rw append_snoc at t.once }
  where
    leaves : (p m v : ℕ) → get_elem? (l ∷ path) p ≡ some m → get_elem? (reached ∷ node ∷ nodes) p ≡ some v → get_elem? net.origins m ≡ some v
    leaves zero m v a b = cc
    leaves (suc p) m v a b = t.leaves p m v a b

    enters : (p m v : ℕ) → get_elem? (l ∷ path) p ≡ some m → get_elem? (node ∷ nodes) p ≡ some v → get_elem? net.ends m ≡ some v
    enters zero m v a b = cc
    enters (suc p) m v a b = t.enters p m v a b

trail_tail : {net : Network} {seen : List ℕ} {reached l node : ℕ} {path nodes : List ℕ} → Trail net seen reached (l ∷ path) (node ∷ nodes) → Trail net (seen ++ (node ∷ [])) node path nodes
trail_tail t =
    record { count = suc_inj t.count; leaves = λ p. t.leaves (suc p); enters = λ p. t.enters (suc p); once = rw append_snoc t.once }

module _ (net : Network) (place : ℕ) where
  trail_of_walk : (reached : ℕ) (seen path : List ℕ) → Distinct seen → walk net place reached seen path ≡ fine → (nodes : List ℕ) × Trail net seen reached path nodes
  unfolding walk link_at
  trail_of_walk reached seen [] d h =
      ([], record { count = refl; leaves = λ p l v a. absurd (none_not_some a); enters = λ p l v a. absurd (none_not_some a); once = rw append-nil d })
  trail_of_walk reached seen (l ∷ ls) d h =
      let (node, a, b) = onward_is (hop place reached seen (link_at net l)) _ h in
      let t = (hop_is_iff place reached seen (get_elem? net.origins l) (get_elem? net.ends l) node).0 a in
      let (nodes, r) = trail_of_walk node (seen ++ (node ∷ [])) ls (distinct_snoc seen node d t.new) b in
      (node ∷ nodes, trail_cons l t.leaves t.enters r)

  walk_of_trail : (reached : ℕ) (seen path nodes : List ℕ) → Trail net seen reached path nodes → walk net place reached seen path ≡ fine
  unfolding walk link_at
  walk_of_trail reached seen [] nodes t = refl
  walk_of_trail reached seen (l ∷ ls) [] t = let e = t.count in absurd (omega arith)
  walk_of_trail reached seen (l ∷ ls) (v ∷ vs) t =
      let here = (hop_is_iff place reached seen (get_elem? net.origins l) (get_elem? net.ends l) v).1 (record {
        leaves = t.leaves 0 l reached refl refl;
        enters = t.enters 0 l v refl refl;
        new = distinct_new seen v vs t.once;
      }) in
      onward_of here _ ∙ walk_of_trail v (seen ++ (v ∷ [])) ls vs (trail_tail t)

head_at : {A : Type 0} (xs : List A) {x : A} → get_elem? xs 0 ≡ some x → (ys : List A) × (xs ≡ x ∷ ys)
head_at [] e = absurd (none_not_some e)
head_at (y ∷ ys) e = (ys, ap (λ z. z ∷ ys) (some_same e))

pub walk-fine-iff : (net : Network) (place source : ℕ) (path : List ℕ) → (walk net place source (source ∷ []) path ≡ fine) ↔ IsPath net source path
walk-fine-iff net place source path = (to, from)
  where
    to : walk net place source (source ∷ []) path ≡ fine → IsPath net source path
    to h =
        let (nodes, t) = trail_of_walk net place source (source ∷ []) path (distinct_snoc [] source (λ p q n a b. absurd (none_not_some a)) refl) h in
        record { visited = source ∷ nodes; count = ap suc t.count; begins = refl; leaves = t.leaves; enters = t.enters; once = t.once }

    from : IsPath net source path → walk net place source (source ∷ []) path ≡ fine
    from h =
        let (nodes, e) = head_at h.visited h.begins in
        walk_of_trail net place source (source ∷ []) path nodes (record {
          count = suc_inj (rw e at h.count);
          leaves = rw e at h.leaves;
          enters = λ p l v a b. h.enters p l v a (rw e b);
          once = rw e at h.once;
        })

module _ {net : Network} {source : ℕ} {path : List ℕ} (h : IsPath net source path) where
  pub path_links_exist : {l : ℕ} → Memᴰ l path → l < length net.origins
  path_links_exist m =
      let (p, e) = mem_at m in
      at_below net.origins _ (h.leaves p _ _ e (at-get_or h.visited p 0 (omega (arith, at_below path p e, h.count))))

  -- the node that a link enters would be visited twice
  pub path_distinct : Distinct path
  path_distinct p q l a b =
      let v = at-get_or h.visited (suc p) 0 (omega (arith, at_below path p a, h.count)) in
      let w = at-get_or h.visited (suc q) 0 (omega (arith, at_below path q b, h.count)) in
      suc_inj (h.once (suc p) (suc q) _ v (cc (h.enters p l _ a v, h.enters q l _ b w)))

  pub path_once : (l : ℕ) → occurs l path ≤ 1
  path_once = distinct_occurs path path_distinct
