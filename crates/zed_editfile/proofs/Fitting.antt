-- What is known of an edit without a fault.
use Rattle.std.proofs.Common.{◌≡◌, Bool, true, false, not, cond, Option, Some, None, refl}
use Rattle.zed_op.specs.declared.cause.Cause.{Cause}
use Rattle.zed_op.specs.declared.cause.Cause.TheVariants as cause
use Rattle.zed_op.specs.declared.op.Edit.{Edit}
use Rattle.zed_op.specs.Fit.{fault, has_good_stamps, is_in_range, names_earlier, has_good_world}

unfaulted : (a : Bool) (c : Cause) (r : Option Cause) → cond (not a) (Some c) r ≡ None → (a ≡ true) × (r ≡ None)
unfaulted true c r h = (refl, h)
unfaulted false c r h = absurd cc

-- the four tests of a fitting edit
pub record Passes (e : Edit) : Type 0 where
  pub stamps : has_good_stamps e ≡ true
  pub range : is_in_range e.op ≡ true
  pub order : names_earlier e ≡ true
  pub world : has_good_world e.op ≡ true

pub passes : (e : Edit) → fault e ≡ None → Passes e
passes e h =
    let a = unfaulted (has_good_stamps e) cause.Stamp (cond (not (is_in_range e.op)) (Some cause.Range) (cond (not (names_earlier e)) (Some cause.Order) (cond (not (has_good_world e.op)) (Some cause.Genesis) None))) h in
    let b = unfaulted (is_in_range e.op) cause.Range (cond (not (names_earlier e)) (Some cause.Order) (cond (not (has_good_world e.op)) (Some cause.Genesis) None)) a.1 in
    let c = unfaulted (names_earlier e) cause.Order (cond (not (has_good_world e.op)) (Some cause.Genesis) None) b.1 in
    let d = unfaulted (has_good_world e.op) cause.Genesis None c.1 in
    record { stamps = a.0; range = b.0; order = c.0; world = d.0 }
