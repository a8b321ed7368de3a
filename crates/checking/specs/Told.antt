-- What the answer on two texts means, in the terms of the rules.
use Rattle.std.specs.Prelude.{Option, Result, Ok, Err}
use Rattle.rules.specs.CheckedTexts.{TextsChecked, found, job_refused, plan_refused}
use Rattle.job.specs.Told.{number_place}
use Rattle.planner.specs.declared.Clash.{Clash}
use Rattle.planner.specs.Told.{found_of}
use Rattle.checking.specs.declared.Refused.{Refused}
use Rattle.checking.specs.declared.Refused.TheVariants.{Job, Plan}

abbrev pub texts_of : Result (Option Clash) Refused → TextsChecked
texts_of (Ok clash) = found (found_of clash)
texts_of (Err (Job r)) = job_refused (number_place r).0 (number_place r).1
texts_of (Err (Plan r)) = plan_refused (number_place r).0 (number_place r).1
