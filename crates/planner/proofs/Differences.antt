-- The difference of two entry steps, as the machine computes it and as the rules say it; and where one of the two does not enter.
use mathlib.Core.Path.{◌≡◌}
use mathlib.Core.Bool.{Bool, true, false, cond}
use mathlib.Core.Option as maybe
use Prim.Native.Nat.{ℕ, zero, suc, ◌<◌}
use native.Mathlib.Omega.{arith}
use lib.Dec.{ltb}
use lib.IntN.{pos, negsuc, ◌-ℤ◌}
use lib.Signed.{mag}
use mir.Syntax.{w32}
use mir.Val.{SFits, to_z, of_z}
use mir.ValLaws.{to_z-of_z, to_z_pos}
use Rattle.std.specs.Prelude.{Option, Some, None, Result, Err, ok_or}
use Rattle.rules.specs.Outcome.{is}
use Rattle.rules.specs.Lead.{lead_of}
use Rattle.job.specs.declared.Refusal.{Refusal}
use Rattle.job.specs.declared.Refusal.TheVariants.{NoLead}
use Rattle.job.specs.declared.Step.{Step}
use Rattle.job.specs.Told.{refusal_of}
use Rattle.planner.specs.Told.{entered_of, Near}

difference_fits : (a b : ℕ) → a < 2147483648 → b < 2147483648 → SFits w32 (pos a -ℤ pos b)
difference_fits a zero p q = record { sfits = omega arith }
difference_fits a (suc n) p q = record { sfits = either (ltb a (suc n)) _ _ (omega arith) (omega arith) }
  where
    either : (t : Bool) (x y : ℕ) → x < 2147483648 → y < 2147483648 → mag (cond t (negsuc x) (pos y)) < 2147483648
    either true x y p q = p
    either false x y p q = q

pub no_first : (o : Option Step) (y : maybe.Option ℕ) {r : Refusal} → ◌≡◌ {A = Result Step Refusal} (Err r) (ok_or o NoLead) → refusal_of r ≡ lead_of (entered_of o) y
no_first None y {r} e = let same : r ≡ NoLead = cc in rw same
no_first (Some s) y e = cc

pub no_second : (o p : Option Step) {r : Refusal} → ◌≡◌ {A = Result Step Refusal} (Err r) (ok_or p NoLead) → refusal_of r ≡ lead_of (entered_of o) (entered_of p)
no_second None None {r} e = let same : r ≡ NoLead = cc in rw same
no_second (Some s) None {r} e = let same : r ≡ NoLead = cc in rw same
no_second o (Some t) e = cc

pub both_enter : (o p : Option Step) {s t : Step} → o ≡ Some s → p ≡ Some t → Near o → Near p
    → is (to_z w32 (of_z w32 (to_z w32 s.0 -ℤ to_z w32 t.0))) ≡ lead_of (entered_of o) (entered_of p)
both_enter o p {s} {t} e f near nearby =
    let m : s.0 < 2147483648 = rw e at near in
    let n : t.0 < 2147483648 = rw f at nearby in
    rw (e, f, to_z_pos w32 s.0 m, to_z_pos w32 t.0 n, to_z-of_z w32 (pos s.0 -ℤ pos t.0) (difference_fits s.0 t.0 m n))
