-- What a C program is answered, and what it finds in the lists it lent, has one outcome.
use mathlib.Core.Path.{◌≡◌, sym, ◌∙◌}
use mathlib.Core.List.{List}
use Prim.Native.Nat.{ℕ}
use Rattle.rules.specs.Network.{Job}
use Rattle.rules.specs.Outcome.{Outcome}
use Rattle.job_text.specs.Told.{Lists}
use Rattle.zhevgulor.specs.declared.Answer.{Answer}
use Rattle.zhevgulor.specs.declared.ReadAnswer.{ReadAnswer}
use Rattle.zhevgulor.specs.declared.TextsAnswer.{TextsAnswer}
use Rattle.zhevgulor.specs.Told.{LentAs, ReadFor}
use Rattle.zhevgulor.specs.Promise.{PlanPromise, CheckPromise}
use Rattle.zhevgulor.specs.PlanBackPromise.{ReadPlanPromise, CheckTextsPromise}
use Rattle.zhevgulor.proofs.Promises.{promise_kept, check_promise_kept}
use Rattle.zhevgulor.proofs.PlanBackPromises.{read_plan_kept, check_texts_kept}

pub lent_once : {answer : Outcome (List ℕ)} {a b : Answer} {lent after other : List ℕ} → LentAs answer a lent after → LentAs answer b lent other → (a ≡ b) × (after ≡ other)
lent_once p q = (p.answered ∙ sym q.answered, p.list ∙ sym q.list)

pub lists_once : {text : List ℕ} {a b : ReadAnswer} {lent after other : Lists} → ReadFor text a lent after → ReadFor text b lent other → (a ≡ b) × (after ≡ other)
lists_once p q = (p.answered ∙ sym q.answered, p.lists ∙ sym q.lists)

-- the promises in plain words leave one outcome too
pub plan_promise_once : (text lent : List ℕ) {a b : Answer} {after other : List ℕ} → PlanPromise text lent a after → PlanPromise text lent b other → (a ≡ b) × (after ≡ other)
plan_promise_once text lent p q = lent_once (promise_kept text lent p) (promise_kept text lent q)

pub check_promise_once : (j : Job) (starts lent : List ℕ) {a b : Answer} {after other : List ℕ} → CheckPromise j starts lent a after → CheckPromise j starts lent b other → (a ≡ b) × (after ≡ other)
check_promise_once j starts lent p q = lent_once (check_promise_kept j starts lent p) (check_promise_kept j starts lent q)

pub read_plan_promise_once : (j : Job) (plan lent : List ℕ) {a b : Answer} {after other : List ℕ} → ReadPlanPromise j plan lent a after → ReadPlanPromise j plan lent b other → (a ≡ b) × (after ≡ other)
read_plan_promise_once j plan lent p q = lent_once (read_plan_kept j plan lent p) (read_plan_kept j plan lent q)

pub check_texts_promise_once : (job plan lent : List ℕ) {a b : TextsAnswer} {after other : List ℕ} → CheckTextsPromise job plan lent a after → CheckTextsPromise job plan lent b other → (a ≡ b) × (after ≡ other)
check_texts_promise_once job plan lent p q =
    let v = check_texts_kept job plan lent p in
    let w = check_texts_kept job plan lent q in
    (v.answered ∙ sym w.answered, v.list ∙ sym w.list)
