-- What the code answers on two texts is fixed by what they come to.
use mathlib.Core.Path.{◌≡◌, refl, sym, ap, ◌∙◌}
use mathlib.Core.Option.{none, some}
use Rattle.std.specs.Prelude.{Option, Some, None, Result, Ok, Err}
use Rattle.rules.specs.CheckedTexts.{TextsChecked, found, job_refused, plan_refused}
use Rattle.job.proofs.OneAnswer.{numbered, numbered_refusal}
use Rattle.planner.specs.declared.Clash.{Clash}
use Rattle.checking.specs.declared.Refused.{Refused}
use Rattle.checking.specs.declared.Refused.TheVariants.{Job, Plan}
use Rattle.checking.specs.Told.{texts_of}

abbrev told : TextsChecked → Result (Option Clash) Refused
told (found none) = Ok None
told (found (some c)) = Ok (Some (record { later = c.later; earlier = c.earlier; link = c.resource; step = record { 0 = c.step } }))
told (job_refused number place) = Err (Job (numbered number place))
told (plan_refused number place) = Err (Plan (numbered number place))

told_texts : (t : Result (Option Clash) Refused) → told (texts_of t) ≡ t
told_texts (Ok None) = refl
told_texts (Ok (Some clash)) = refl
told_texts (Err (Job r)) = ap {B = Result (Option Clash) Refused} (λ r. Err (Job r)) (numbered_refusal r)
told_texts (Err (Plan r)) = ap {B = Result (Option Clash) Refused} (λ r. Err (Plan r)) (numbered_refusal r)

pub texts_injective : (t u : Result (Option Clash) Refused) → texts_of t ≡ texts_of u → t ≡ u
texts_injective t u e = sym (told_texts t) ∙ ap told e ∙ told_texts u
