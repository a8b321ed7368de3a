-- What a C program is promised, in plain words: by `zhevgulor_plan` of a job's text, and by `zhevgulor_check` of starts. What a job is
-- stands in Jobs, its text in JobWritten, what starts and clashes are in Plain, the bounds in Demands, a plan's text in PlanText; which
-- refusal a text, lists or starts get in JobText, Tables and Answers. Nothing here says how an answer is found.
use Rattle.std.specs.Prelude.{◌≡◌, List, ◌∷◌, ◌++◌, ℕ, ◌≤◌, ◌<◌, length, take, drop}
use Rattle.rules.specs.Sizes.{text_most}
use Rattle.rules.specs.Network.{Job, packets}
use Rattle.rules.specs.Resource.{Resource}
use Rattle.rules.specs.Outcome.{is, refused}
use Rattle.rules.specs.Plain.{Takes, Starts, ConflictAt, Shown}
use Rattle.rules.specs.JobText.{reading}
use Rattle.rules.specs.JobWritten.{text_of_job}
use Rattle.rules.specs.PlanText.{text_of_plan}
use Rattle.rules.specs.Answers.{started_verdict}
use Rattle.theorems.specs.Jobs.{IsJob, IsStarted}
use Rattle.theorems.specs.Demands.{Bounded}
use Rattle.zhevgulor.specs.declared.Answer.{Answer}
use Rattle.zhevgulor.specs.Told.{answer_for}

-- ---- from a job's text to its plan's text

-- the text is that of an accepted job
pub record Says (text : List ℕ) (j : Job) : Type 0 where
  pub job : IsJob j
  pub its_text : text ≡ text_of_job j
  pub short : length text ≤ text_most

-- the starts of demand 2, of the job that this text says
abbrev pub StartsIn : List ℕ → Job → List ℕ → Type 0
StartsIn text j starts = Says text j × Starts (Takes j.network) (packets j) starts

-- what is listed below a packet moves neither it nor one above it: the first n packets have the same starts in every job on the same
-- network that begins with them
abbrev pub Unmoved : Job → List ℕ → Type 0
Unmoved j starts = (n : ℕ) (k : Job) (others : List ℕ) → IsJob k → k.network ≡ j.network → take n (packets k) ≡ take n (packets j)
    → Starts (Takes k.network) (packets k) others → take n others ≡ take n starts

-- nor what is written below a line: the packets of the first lines, `front`, have the same starts in every text that begins with these
-- lines and says a job (by `reading-front` an accepted text that is cut after a line is one)
abbrev pub UnmovedText : List ℕ → List ℕ → Type 0
UnmovedText text starts = (front more other : List ℕ) (i k : Job) (others : List ℕ) → text ≡ front ++ more → Says front i
    → StartsIn (front ++ other) k others → take (length (packets i)) others ≡ take (length (packets i)) starts

-- the plan of the job that the text says
pub record PlanOf (text plan : List ℕ) : Type 0 where
  pub job : Job
  pub starts : List ℕ
  pub in_text : StartsIn text job starts
  pub bounded : Bounded job starts
  pub unmoved : Unmoved job starts
  pub unmoved_text : UnmovedText text starts
  pub written : plan ≡ text_of_plan job starts

-- the text, the room as it was lent, the answer, the room afterwards
pub data PlanPromise (text lent : List ℕ) (told : Answer) (after : List ℕ) : Type 0 where
  -- the plan stands in the room's first bytes, and behind it what was there
  told_plan : (plan : List ℕ) → PlanOf text plan → length plan ≤ length lent → told ≡ answer_for (is (length plan))
      → after ≡ plan ++ drop (length plan) lent → PlanPromise text lent told after
  -- the plan is longer than the room, which is as it was
  no_room : (plan : List ℕ) → PlanOf text plan → length lent < length plan → told ≡ answer_for (refused 10 0) → after ≡ lent
      → PlanPromise text lent told after
  -- no job has this text; the number and the place are those of the rules for texts, and the room is as it was
  no_job : (number place : ℕ) → ((j : Job) → Says text j → ⊥) → reading text ≡ refused number place
      → told ≡ answer_for (refused number place) → after ≡ lent → PlanPromise text lent told after

-- ---- the check of starts

-- no two packets of the job take one link in one step
abbrev pub Apart : Job → List ℕ → Type 0
Apart j starts = (k at e : ℕ) (link : Resource) (step : ℕ) → ConflictAt (Takes j.network) (packets j) starts k at e link step → ⊥

-- the clash that is to be shown
abbrev pub ShownOf : Job → List ℕ → (k e : ℕ) → Resource → ℕ → Type 0
ShownOf j starts k e link step = Shown (Takes j.network) (packets j) starts k e link step

-- the job and the starts, the list as it was lent, the answer, the list afterwards
pub data CheckPromise (j : Job) (starts lent : List ℕ) (told : Answer) (after : List ℕ) : Type 0 where
  clear : IsStarted j starts → Apart j starts → told ≡ answer_for (is 0) → after ≡ lent → CheckPromise j starts lent told after
  -- the clash's four numbers stand in the list's first places, and behind them what was there
  clash : IsStarted j starts → (k e link step : ℕ) → ShownOf j starts k e link step → 4 ≤ length lent → told ≡ answer_for (is 4)
      → after ≡ k ∷ e ∷ link ∷ step ∷ drop 4 lent → CheckPromise j starts lent told after
  -- there is no place for four numbers
  no_place : IsStarted j starts → (k e link step : ℕ) → ShownOf j starts k e link step → length lent < 4
      → told ≡ answer_for (refused 10 0) → after ≡ lent → CheckPromise j starts lent told after
  -- the lists are no job with starts; the number and the place are those of the rules for lists and starts
  not_started : (number place : ℕ) → (IsStarted j starts → ⊥) → started_verdict j starts ≡ refused number place
      → told ≡ answer_for (refused number place) → after ≡ lent → CheckPromise j starts lent told after
