-- Why a command that draws stops.
use Rattle.zed_take.specs.declared.error.TakeError.{TakeError}
use Rattle.zed_take.specs.declared.error.TakeError.TheVariants as taking
use Rattle.zed_op.specs.declared.cause.Cause.TheVariants as cause
use Rattle.zed_driver.specs.declared.command.Stop.{Stop}
use Rattle.zed_driver.specs.declared.command.Stop.TheVariants.{Memory, Refused}
use Rattle.zed_refusal.specs.declared.reason.Reason.{Reason}
use Rattle.zed_refusal.specs.declared.reason.Reason.TheVariants as reason
use Rattle.zed_refusal.specs.Stops.{export_stop, stop_as}
use Rattle.cmd_take.specs.declared.reason.DrawingReason.{DrawingReason}
use Rattle.cmd_take.specs.declared.reason.DrawingReason.TheVariants.{Common, NotTaken}
use Rattle.std.specs.Prelude.{Result, Ok, Err}

-- why a command that draws stops
abbrev pub DrawingStop : Type 0
DrawingStop = Stop DrawingReason

-- it is refused for a reason of other commands too
abbrev pub refused_for : Reason → DrawingStop
refused_for why = Refused (Common why)

-- it is refused as others are
abbrev pub drawing_stop : Stop Reason → DrawingStop
drawing_stop stop = stop_as Common stop

-- the answer of another command as one that draws hands it on
abbrev pub drawing_told : {X : Type 0} → Result X (Stop Reason) → Result X DrawingStop
drawing_told (Ok x) = Ok x
drawing_told (Err e) = Err (drawing_stop e)

-- why it stops at a taking
abbrev pub take_stop : TakeError → DrawingStop
take_stop taking.Memory = Memory
take_stop (taking.Base e) = drawing_stop (export_stop e)
take_stop (taking.WorldOver b n) = refused_for (reason.BoardOver b n)
take_stop taking.ClockSpent = refused_for reason.ClockSpent
take_stop taking.NotTaken = Refused NotTaken

-- 0 is no author's number
abbrev pub no_author : DrawingStop
no_author = refused_for (reason.BadEdit cause.Stamp)
