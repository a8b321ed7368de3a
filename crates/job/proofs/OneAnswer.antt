-- What the code answers is fixed by what the rules say of it: no two refusals share number and place, so a contract of the
-- form `outcome_of f r ≡ ..` has one outcome.
use Rattle.std.proofs.Common.{◌≡◌, ℕ, false, Result, Ok, Err, refl, sym, ap, ◌∙◌}
use lib.Dec.{eqb}
use Rattle.counting.specs.Count.{pick}
use Rattle.rules.specs.Outcome.{Outcome, is, refused}
use Rattle.job.specs.declared.Refusal.{Refusal}
use Rattle.job.specs.declared.Refusal.TheVariants.{TextTooLong, BadForm, Size, NoNode, SelfLink, NoLink, NotLeaving, Revisited, Disagree, ShortRoom, StartCount, LateStart, NoLead, NotFollowing, NoHops}
use Rattle.job.specs.Told.{number_place, outcome_of, verdict_of}

-- the refusal with a number and a place
abbrev pub numbered : (number place : ℕ) → Refusal
numbered n p =
    pick (eqb n 1) TextTooLong
    (pick (eqb n 2) (BadForm p)
    (pick (eqb n 3) (Size p)
    (pick (eqb n 4) (NoNode p)
    (pick (eqb n 5) (SelfLink p)
    (pick (eqb n 6) (NoLink p)
    (pick (eqb n 7) (NotLeaving p)
    (pick (eqb n 8) (Revisited p)
    (pick (eqb n 9) Disagree
    (pick (eqb n 10) ShortRoom
    (pick (eqb n 11) StartCount
    (pick (eqb n 12) (LateStart p)
    (pick (eqb n 13) NoLead
    (pick (eqb n 14) (NotFollowing p) (NoHops p))))))))))))))

pub numbered_refusal : (r : Refusal) → numbered (number_place r).0 (number_place r).1 ≡ r
numbered_refusal TextTooLong = refl
numbered_refusal (BadForm p) = refl
numbered_refusal (Size p) = refl
numbered_refusal (NoNode p) = refl
numbered_refusal (SelfLink p) = refl
numbered_refusal (NoLink p) = refl
numbered_refusal (NotLeaving p) = refl
numbered_refusal (Revisited p) = refl
numbered_refusal Disagree = refl
numbered_refusal ShortRoom = refl
numbered_refusal StartCount = refl
numbered_refusal (LateStart p) = refl
numbered_refusal NoLead = refl
numbered_refusal (NotFollowing p) = refl
numbered_refusal (NoHops p) = refl

-- none has the number 0, by which a C program is told a value
pub number_not_zero : (r : Refusal) → eqb (number_place r).0 0 ≡ false
number_not_zero TextTooLong = refl
number_not_zero (BadForm p) = refl
number_not_zero (Size p) = refl
number_not_zero (NoNode p) = refl
number_not_zero (SelfLink p) = refl
number_not_zero (NoLink p) = refl
number_not_zero (NotLeaving p) = refl
number_not_zero (Revisited p) = refl
number_not_zero Disagree = refl
number_not_zero ShortRoom = refl
number_not_zero StartCount = refl
number_not_zero (LateStart p) = refl
number_not_zero NoLead = refl
number_not_zero (NotFollowing p) = refl
number_not_zero (NoHops p) = refl

-- what an outcome says: its value, or the refusal with its number and place
abbrev value_in : {B : Type 0} → B → Outcome B → B
value_in b (is c) = c
value_in b (refused number place) = b

abbrev refusal_in : {B : Type 0} → Outcome B → Refusal
refusal_in (is b) = Disagree
refusal_in (refused number place) = numbered number place

-- an outcome is of one value at most, if f tells values apart, and of one refusal
pub outcome_injective : {A B : Type 0} (f : A → B) → ((a b : A) → f a ≡ f b → a ≡ b) → (v w : Result A Refusal) → outcome_of f v ≡ outcome_of f w → v ≡ w
outcome_injective f apart (Ok a) (Ok b) e = ap Ok (apart a b (ap (value_in (f a)) e))
outcome_injective f apart (Ok a) (Err r) e = cc
outcome_injective f apart (Err r) (Ok b) e = cc
outcome_injective f apart (Err r) (Err q) e = ap Err (sym (numbered_refusal r) ∙ ap refusal_in e ∙ numbered_refusal q)

pub verdict_injective : (v w : Result Unit Refusal) → verdict_of v ≡ verdict_of w → v ≡ w
verdict_injective = outcome_injective (λ u. u) (λ a b e. e)
