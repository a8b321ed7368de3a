-- The step in which a packet enters a link: as long after its start as the link lies along its path.
use mathlib.Core.Path.{◌≡◌, refl, sym, ap, ap₂, ◌∙◌}
use mathlib.Core.Bool.{Bool, true, false, cond}
use mathlib.Core.List.{List, [], ◌∷◌}
use mathlib.Core.Option as maybe
use Prim.Native.Nat.{ℕ, ◌+◌, ◌≤◌, ◌<◌}
use native.Mathlib.Nat.{add_assoc, add-zero}
use native.Mathlib.Omega.{arith}
use lib.Dec.{eqb}
use lib.ListN.{length, get_or}
use Rattle.std.specs.Prelude.{Option, Some, position}
use Rattle.std.specs.List.{position_from}
use Rattle.std.proofs.lemmas.Iterator.Adapters.{position_from-zero}
use Rattle.std.proofs.lemmas.List.Quantifiers.{position-Some}
use Rattle.counting.specs.Count.{pick}
use Rattle.counting.proofs.Places.{at-get_or, at_none}
use Rattle.rules.specs.Sizes.{hops_most}
use Rattle.rules.specs.Network.{paths_from}
use Rattle.rules.specs.Travel.{one_step}
use Rattle.rules.specs.Lead.{entry_step, entry_of, entry_at}
use Rattle.theorems.proofs.Accepted.{length-paths_from}
use Rattle.planner.specs.PacketsInLists.{SimplePaths, path_at}
use Rattle.planner.specs.Told.{option_of}
use Rattle.planner.proofs.PathParts.{path-le_hops}

-- hop by hop, of which the first is the i-th of the path
entered_from : (link s i : ℕ) (links : List ℕ) → entry_step one_step link (s + i) links ≡ option_of (λ hop. s + hop) (position_from (λ l. eqb l link) i links)
unfolding entry_step
entered_from link s i [] = refl
entered_from link s i (l ∷ ls) = either (eqb l link) _ (rw add_assoc (entered_from link s (i + 1) ls))
  where
    either : (b : Bool) {later : maybe.Option ℕ} (next : Option ℕ) → later ≡ option_of (λ hop. s + hop) next → pick b (maybe.some (s + i)) later ≡ option_of (λ hop. s + hop) (cond b (Some i) next)
    either true next e = refl
    either false next e = e

module _ (stops hops starts : List ℕ) (link k : ℕ) (same : length starts ≡ length stops) {packet : ℕ} (is : packet ≡ k) where
  pub no_packet : length starts ≤ packet → maybe.none ≡ entry_at one_step starts (paths_from 0 stops hops) link k
  unfolding entry_at
  no_packet l = rw (at_none starts k (omega arith))

  module _ (l : packet < length starts) {links : List ℕ} (is_path : links ≡ path_at stops hops packet) (found : Option ℕ) (is_found : found ≡ position (λ l. eqb l link) links) where
    pub entry_listed : option_of (λ hop. get_or starts packet 0 + hop) found ≡ entry_at one_step starts (paths_from 0 stops hops) link k
    unfolding entry_at path_at
    entry_listed =
        let s = get_or starts packet 0 in
        let ps = paths_from 0 stops hops in
        let by_hops : option_of (λ hop. s + hop) (position (λ l. eqb l link) links) ≡ entry_step one_step link s links =
        rw (position_from-zero (λ l. eqb l link) links) (sym (rw add-zero at (entered_from link s 0 links))) in
        rw (is_found, ← is)
        (by_hops ∙ rw is_path (sym (ap₂ (entry_of one_step link) (at-get_or starts packet 0 l) (at-get_or ps packet [] (omega (arith, length-paths_from 0 stops hops))))))

    -- a hop is one of few
    pub hop_within : SimplePaths stops hops → {hop : ℕ} → Some hop ≡ found → hop < hops_most
    hop_within simple {hop} e =
        let there = position-Some (λ l. eqb l link) links hop 0 (sym (e ∙ is_found)) in
        omega (arith, there.0, ap length is_path, path-le_hops stops hops packet simple (omega arith))
