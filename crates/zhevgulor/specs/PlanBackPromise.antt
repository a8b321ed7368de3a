-- What a C program is promised, in plain words, of a plan's text that it hands over: by `zhevgulor_read_plan` its starts, and by
-- `zhevgulor_check_texts` its clash. What an accepted job with starts is stands in Jobs, a plan's text in PlanText, the two texts together
-- in TextPairs, a clash in Plain; which refusal a text gets in JobText and PlanBack. Nothing here says how an answer is found.
use Rattle.std.specs.Prelude.{◌≡◌, List, ◌∷◌, ◌++◌, ℕ, ◌≤◌, ◌<◌, length, drop}
use Rattle.rules.specs.Network.{Job}
use Rattle.rules.specs.Outcome.{is, refused}
use Rattle.rules.specs.JobText.{reading}
use Rattle.rules.specs.PlanText.{text_of_plan}
use Rattle.rules.specs.PlanBack.{read_back}
use Rattle.theorems.specs.Jobs.{IsStarted}
use Rattle.theorems.specs.TextPairs.{TextPair}
use Rattle.zhevgulor.specs.declared.Answer.{Answer}
use Rattle.zhevgulor.specs.declared.TextsAnswer.{TextsAnswer}
use Rattle.zhevgulor.specs.Told.{answer_for, neither, the_job, the_plan, about_text}
use Rattle.zhevgulor.specs.Promise.{Says, Apart, ShownOf}

-- ---- the starts of a plan's text

-- the plan is the text of these starts, which the job accepts
pub record PlanSays (j : Job) (plan starts : List ℕ) : Type 0 where
  pub started : IsStarted j starts
  pub its_text : plan ≡ text_of_plan j starts

-- the job and the plan's text, the list as it was lent, the answer, the list afterwards
pub data ReadPlanPromise (j : Job) (plan lent : List ℕ) (told : Answer) (after : List ℕ) : Type 0 where
  -- the starts stand in the list's first places, and behind them what was there
  told_starts : (starts : List ℕ) → PlanSays j plan starts → length starts ≤ length lent → told ≡ answer_for (is (length starts))
      → after ≡ starts ++ drop (length starts) lent → ReadPlanPromise j plan lent told after
  -- there are more starts than places
  too_few_places : (starts : List ℕ) → PlanSays j plan starts → length lent < length starts → told ≡ answer_for (refused 10 0)
      → after ≡ lent → ReadPlanPromise j plan lent told after
  -- the lists are no job, or no starts have this text; the number and the place are those of the rules
  no_plan : (number place : ℕ) → ((starts : List ℕ) → PlanSays j plan starts → ⊥) → read_back j plan ≡ refused number place
      → told ≡ answer_for (refused number place) → after ≡ lent → ReadPlanPromise j plan lent told after

-- ---- the clash of a job's text and a plan's text

-- the two texts, the list as it was lent, the answer, the list afterwards
pub data CheckTextsPromise (job plan lent : List ℕ) (told : TextsAnswer) (after : List ℕ) : Type 0 where
  texts_clear : (j : Job) (starts : List ℕ) → TextPair j starts job plan → Apart j starts → told ≡ about_text neither (answer_for (is 0))
      → after ≡ lent → CheckTextsPromise job plan lent told after
  -- the clash's four numbers stand in the list's first places, and behind them what was there
  texts_clash : (j : Job) (starts : List ℕ) → TextPair j starts job plan → (k e link step : ℕ) → ShownOf j starts k e link step → 4 ≤ length lent
      → told ≡ about_text neither (answer_for (is 4)) → after ≡ k ∷ e ∷ link ∷ step ∷ drop 4 lent → CheckTextsPromise job plan lent told after
  -- there is no place for four numbers
  texts_no_place : (j : Job) (starts : List ℕ) → TextPair j starts job plan → (k e link step : ℕ) → ShownOf j starts k e link step → length lent < 4
      → told ≡ about_text neither (answer_for (refused 10 0)) → after ≡ lent → CheckTextsPromise job plan lent told after
  -- no job has the first text
  texts_no_job : (number place : ℕ) → ((j : Job) → Says job j → ⊥) → reading job ≡ refused number place
      → told ≡ about_text the_job (answer_for (refused number place)) → after ≡ lent → CheckTextsPromise job plan lent told after
  -- the job of the first text has no starts whose plan is the second
  texts_no_plan : (j : Job) → Says job j → (number place : ℕ) → ((starts : List ℕ) → PlanSays j plan starts → ⊥)
      → read_back j plan ≡ refused number place → told ≡ about_text the_plan (answer_for (refused number place)) → after ≡ lent
      → CheckTextsPromise job plan lent told after
