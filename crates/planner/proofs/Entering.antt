-- Whether a packet enters a link in a step is seen at one hop: as many as the step lies after the start.
use mathlib.Core.Path.{◌≡◌, sym, ap, ◌∙◌}
use mathlib.Core.Bool.{true, false}
use mathlib.Core.List.{List}
use mathlib.Core.Logic.{◌↔◌}
use mathlib.Core.Option.{Option, some}
use Prim.Native.Nat.{ℕ, ◌+◌, ◌-◌, ◌≤◌, ◌<◌}
use native.Mathlib.Omega.{arith}
use lib.Dec.{eqb, ltb}
use lib.ListN.{length, get_or, get_elem?}
use borrow.Author.Tests.{eqb-true, eq-eqb, le-ltb}
use Rattle.counting.proofs.Tests.{false_of_not_true, same_of_iff}
use Rattle.counting.proofs.Places.{some_same, at_below, at-get_or}
use Rattle.rules.specs.Travel.{one_step}
use Rattle.rules.specs.Claims.{place, takes}
use Rattle.theorems.proofs.Conflicts.{takes-iff, links_mean}
use Rattle.theorems.proofs.OneStep.{enters_iff}
use Rattle.planner.specs.PacketsInLists.{path_claims}

module _ (start : ℕ) (path : List ℕ) (link step : ℕ) where
  takes_at_hop : (takes (place start (path_claims path)) link step ≡ true) ↔ ((hop : ℕ) × (get_elem? path hop ≡ some link) × (start + hop ≡ step))
  takes_at_hop = (
    λ e. let (hop, h) = (takes-iff (links_mean one_step) start path link step).0 e in
        let (at, then_step) = (enters_iff start path hop link step).0 h in
        (hop, at, then_step),
    λ h. (takes-iff (links_mean one_step) start path link step).1 (h.0, (enters_iff start path h.0 link step).1 (h.1, h.2)),
  )

  pub before-start : step < start → false ≡ takes (place start (path_claims path)) link step
  before-start l = sym (false_of_not_true _ (λ e. let h = takes_at_hop.0 e in omega (arith, h.2)))

  pub past_path : start ≤ step → length path ≤ step - start → ltb (step - start) (length path) ≡ takes (place start (path_claims path)) link step
  past_path l m = le-ltb _ _ m ∙ sym (false_of_not_true _ (λ e. let h = takes_at_hop.0 e in omega (arith, h.2, at_below path h.0 h.1)))

  pub on_path : start ≤ step → step - start < length path → eqb (get_or path (step - start) 0) link ≡ takes (place start (path_claims path)) link step
  on_path l m = same_of_iff _ _ (λ e. takes_at_hop.1 (here e)) (λ e. there (takes_at_hop.0 e))
    where
      here : eqb (get_or path (step - start) 0) link ≡ true → (hop : ℕ) × (get_elem? path hop ≡ some link) × (start + hop ≡ step)
      here e = (step - start, at-get_or path (step - start) 0 m ∙ ap {B = Option ℕ} some (eqb-true _ _ e), omega arith)

      there : ((hop : ℕ) × (get_elem? path hop ≡ some link) × (start + hop ≡ step)) → eqb (get_or path (step - start) 0) link ≡ true
      there (hop, at, then_step) =
          let same : hop ≡ step - start = omega (arith, then_step) in
          eq-eqb _ _ (some_same (sym (at-get_or path (step - start) 0 m) ∙ ap (get_elem? path) (sym same) ∙ at))
