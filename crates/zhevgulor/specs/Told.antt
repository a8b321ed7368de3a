-- What the answers that C programs get mean, in the terms of the rules.
use Rattle.std.specs.Prelude.{◌≡◌, List, [], ◌∷◌, ℕ, ℤ, pos, length}
use Rattle.std.proofs.Math.Option.{Option, none, some}
use Rattle.rules.specs.Network.{Job}
use Rattle.rules.specs.Outcome.{Outcome, is, refused, onward}
use Rattle.rules.specs.Check.{Clash}
use Rattle.rules.specs.Answers.{in_room, lent_after, checked}
use Rattle.rules.specs.CheckedTexts.{TextsChecked, found, job_refused, plan_refused}
use Rattle.job.specs.declared.Job.{Job as Counts}
use Rattle.job_text.specs.Told.{Lists, read_in, lists_after, counts_of}
use Rattle.zhevgulor.specs.declared.Answer.{Answer}
use Rattle.zhevgulor.specs.declared.LeadAnswer.{LeadAnswer}
use Rattle.zhevgulor.specs.declared.ReadAnswer.{ReadAnswer}
use Rattle.zhevgulor.specs.declared.TextsAnswer.{TextsAnswer}

-- a value behind refusal 0, or a refusal's number with its place
abbrev pub answer_for : Outcome ℕ → Answer
answer_for (is n) = record { refusal = 0; value = n }
answer_for (refused number place) = record { refusal = number; value = place }

abbrev pub lead_for : Outcome ℤ → LeadAnswer
lead_for (is z) = record { refusal = 0; place = 0; lead = z }
lead_for (refused number place) = record { refusal = number; place = place; lead = pos 0 }

-- the counts behind refusal 0, or a refusal with 0 for each count
abbrev pub read_for : Outcome Counts → ReadAnswer
read_for (is c) = record { refusal = 0; value = 0; nodes = c.nodes; links = c.links; packets = c.packets; hops = c.hops }
read_for (refused number place) = record { refusal = number; value = place; nodes = 0; links = 0; packets = 0; hops = 0 }

-- an answer that is written into a lent list: its length is told, and the list afterwards holds it in its first places
pub record LentAs (answer : Outcome (List ℕ)) (told : Answer) (lent after : List ℕ) : Type 0 where
  pub answered : told ≡ answer_for (onward answer (λ a. is (length a)))
  pub list : after ≡ lent_after answer lent

-- a clash as four numbers, and nothing where all is clear
abbrev pub clash_numbers : Option Clash → List ℕ
clash_numbers none = []
clash_numbers (some c) = c.later ∷ c.earlier ∷ c.resource ∷ c.step ∷ []

-- the check with room for so many numbers
unfoldable pub checked_in : Job → List ℕ → ℕ → Outcome (List ℕ)
checked_in j starts room = onward (checked j starts) (λ found. in_room (clash_numbers found) room)

-- the reader's answer, and the five lists afterwards
pub record ReadFor (text : List ℕ) (told : ReadAnswer) (lent after : Lists) : Type 0 where
  pub answered : told ≡ read_for (onward (read_in text lent) (λ j. is (counts_of j)))
  pub lists : after ≡ lists_after (read_in text lent) lent

-- ---- two texts

-- an answer, and which text it refuses
abbrev pub about_text : ℕ → Answer → TextsAnswer
about_text text a = record { text = text; refusal = a.refusal; value = a.value }

-- neither text is refused, or the job's, or the plan's
abbrev pub neither : ℕ
neither = 0

abbrev pub the_job : ℕ
the_job = 1

abbrev pub the_plan : ℕ
the_plan = 2

abbrev pub refused_text : TextsChecked → ℕ
refused_text (found clash) = neither
refused_text (job_refused number place) = the_job
refused_text (plan_refused number place) = the_plan

-- the clash that two texts come to, with room for so many numbers: 10 comes after every other refusal
abbrev pub clash_in : TextsChecked → ℕ → Outcome (List ℕ)
clash_in (found clash) room = in_room (clash_numbers clash) room
clash_in (job_refused number place) room = refused number place
clash_in (plan_refused number place) room = refused number place

-- what two texts come to is told, and the lent list afterwards holds the clash in its first places
pub record TextsFor (texts : TextsChecked) (told : TextsAnswer) (lent after : List ℕ) : Type 0 where
  pub answered : told ≡ about_text (refused_text texts) (answer_for (onward (clash_in texts (length lent)) (λ numbers. is (length numbers))))
  pub list : after ≡ lent_after (clash_in texts (length lent)) lent
