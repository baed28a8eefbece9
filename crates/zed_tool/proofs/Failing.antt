-- No refusal of a command is told as a file that can't be had.
use Rattle.std.proofs.Common.{◌≡◌, ℕ, List}
use Rattle.zed_refusal.specs.declared.reason.Reason.{Reason}
use Rattle.zed_files.specs.Refusals.{reason_refusal}
use Rattle.zed_files.specs.declared.refusal.Refusal.TheVariants as refusal
use Rattle.cmd_set.specs.declared.reason.SetReason.{SetReason}
use Rattle.cmd_set.specs.declared.reason.SetReason.TheVariants as setting
use Rattle.cmd_take.specs.declared.reason.DrawingReason.{DrawingReason}
use Rattle.cmd_take.specs.declared.reason.DrawingReason.TheVariants as drawing
use Rattle.zed_tool.specs.Answers.{drawing_failure, file_failed, set_failure, shared_failure}
use Rattle.zed_tool.proofs.Driven.{NeverFile, refused_is}
use Rattle.zed_tool.proofs.Stops.{reason_is}

pub shared_never : NeverFile shared_failure
shared_never e is = reason_is e (refused_is (reason_refusal e) refusal.File is)

pub drawing_never : (text : List ℕ) → NeverFile (drawing_failure text)
drawing_never text (drawing.Common e) is = shared_never e is
drawing_never text drawing.NotTaken is = cc
drawing_never text (drawing.TakesAway boards) is = cc
drawing_never text (drawing.BadText bad) is = cc

pub set_never : (words : List (List ℕ)) → NeverFile (set_failure words)
set_never words (setting.Common e) is = shared_never e is
set_never words (setting.BadWord bad) is = cc
