-- What the check of an edit answers.
use Rattle.std.specs.Prelude.{◌≡◌, ◌↔◌, Bool, true, false, Option, Some, None, Result, Ok, Err}
use Rattle.zed_world.specs.Reading.{BeginsAWorld}
use Rattle.zed_op.specs.declared.cause.Cause.{Cause}
use Rattle.zed_op.specs.declared.cause.EditError.{EditError}
use Rattle.zed_op.specs.declared.cause.EditError.TheVariants.{BadEdit}
use Rattle.zed_op.specs.declared.op.Op.{Op}
use Rattle.zed_op.specs.declared.op.Op.TheVariants.{Genesis}
use Rattle.zed_op.specs.declared.op.Edit.{Edit}
use Rattle.zed_op.specs.Fit.{Fits, has_good_stamps, is_in_range, names_earlier, has_good_world}

-- Ok without a cause, else the cause
abbrev pub verdict : Option Cause → Result (Unit {0}) EditError
verdict None = Ok tt
verdict (Some cause) = Err (BadEdit cause)

-- whether an edit makes the world
abbrev pub is_genesis : Op → Bool
is_genesis (Genesis bytes) = true
is_genesis _ = false

-- the bytes of a Genesis begin a world
abbrev pub BeginsItsWorld : Op → Type 0
BeginsItsWorld (Genesis bytes) = BeginsAWorld bytes
BeginsItsWorld _ = Unit {0}

-- an edit of which only the bytes of its world, which begin one, are still to be judged
abbrev pub HangsOnItsWorld : Edit → Type 0
HangsOnItsWorld e =
    (is_genesis e.op ≡ true) × (has_good_stamps e ≡ true) × (is_in_range e.op ≡ true) × (names_earlier e ≡ true) × BeginsItsWorld e.op

-- an edit fits where each of its parts is good
abbrev pub FitIsEachPart : Type 0
FitIsEachPart =
    (e : Edit)
    → Fits e ↔ ((has_good_stamps e ≡ true) × (is_in_range e.op ≡ true) × (names_earlier e ≡ true) × (has_good_world e.op ≡ true))
