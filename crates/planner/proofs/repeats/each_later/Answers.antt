-- The comparisons say of each step and the next what is asked.
use Rattle.std.proofs.Common.{◌≡◌, ℕ, Bool, true, false, IsTrue, ◌↔◌, List, nat_lt, sym, refl, rules}
use borrow.Author.Tests.{ltb-true, lt-ltb}
use Rattle.std.proofs.lemmas.List.Sorted.{answers_always}
use Rattle.std.specs.List.{IsAllAdjacentAnswer}
use Rattle.std.specs.List.Sorted.{IsStrictlyIncreasing}
use Rattle.planner.proofs.WholeLists.{whole_from}
use Rattle.planner.proofs.repeats.each_later.Goals as goal

-- those that are compared are the steps
told : (r : Bool) (over : List ℕ) {steps : List ℕ} → IsAllAdjacentAnswer (λ x y b. b ≡ nat_lt x y) over r → over ≡ steps → IsTrue r ↔ IsStrictlyIncreasing steps
told true over h same = rw (← same) (λ _ k l. ltb-true _ _ (sym (h k 0 l)), λ _. refl)
told false over h same = rw (← same) (λ e. absurd (cc), λ later. let e = h.2 0 in let l = lt-ltb _ _ (later h.0 h.1) in cc)

pub returns : goal.returns
returns c = told _ _ (c.is_sorted_by.ensures.cases nat_lt (answers_always _ _ _ (λ f a r g h. search rules))) (search (rules, whole_from))
