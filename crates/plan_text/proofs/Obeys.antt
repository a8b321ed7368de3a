-- What the plan reader's contract says where nothing is refused: the plan is the text of accepted starts of an accepted job, and they
-- stand in the first places of the lent list.
use mathlib.Core.Path.{◌≡◌, sym}
use mathlib.Core.List.{List, ◌++◌}
use Prim.Native.Nat.{ℕ}
use lib.ListN.{length, drop}
use Rattle.std.proofs.Common.{Result, Ok}
use Rattle.rules.specs.Network.{Job}
use Rattle.rules.specs.Outcome.{is, fine}
use Rattle.rules.specs.PlanText.{text_of_plan}
use Rattle.rules.specs.Answers.{lent_after, plan_read_in}
use Rattle.theorems.specs.Jobs.{IsStarted}
use Rattle.theorems.proofs.Verdicts.{onward_is}
use Rattle.theorems.proofs.Started.{started_fine-iff}
use Rattle.theorems.proofs.PlanBackExact.{plan_read_in-iff}
use Rattle.job.specs.declared.Refusal.{Refusal}
use Rattle.plan_text.specs.Told.{ReadBackAs}

pub record StartsRead (j : Job) (plan : List ℕ) (places : ℕ) (lent after : List ℕ) : Type 0 where
  pub starts : List ℕ
  pub said : plan_read_in j plan places ≡ is starts
  pub started : IsStarted j starts
  pub text : plan ≡ text_of_plan j starts
  pub stand : after ≡ starts ++ drop (length starts) lent

pub read_starts : (j : Job) (plan : List ℕ) (places : ℕ) {told : Result Unit Refusal} {lent after : List ℕ} → ReadBackAs (plan_read_in j plan places) told lent after
    → told ≡ Ok tt → StartsRead j plan places lent after
unfolding lent_after
read_starts j plan places a e =
    let (ss, said, all) = onward_is (plan_read_in j plan places) (λ starts. fine) (sym (rw e at a.verdict)) in
    let (started, text, fits) = (plan_read_in-iff j plan places ss).0 said in
    record { starts = ss; said = said; started = (started_fine-iff j ss).0 started; text = text; stand = rw said at a.starts }
