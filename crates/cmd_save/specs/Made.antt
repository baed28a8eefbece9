-- What `save` and `check` make of the world of a set of edits.
use Rattle.zed_op.specs.declared.op.Edit.{Edit}
use Rattle.zed_export.specs.declared.error.ExportError.{ExportError}
use Rattle.std.specs.Prelude.{◌≡◌, ℕ, List, Result, Ok, Err, length}
use Rattle.zed_edit.specs.Replay.{replay}
use Rattle.zed_export.specs.Limits.{refusal_of, saved, unless_over}
use Rattle.zed_export.specs.World.{world_of}
use Rattle.zed_driver.specs.declared.command.Stop.{Stop}
use Rattle.zed_driver.specs.Effects.{Effect, prints, writes}
use Rattle.zed_refusal.specs.declared.reason.Reason.{Reason}
use Rattle.zed_refusal.specs.Stops.{export_stop}
use Rattle.zed_files.specs.Lines.{bytes_line}
use Rattle.cmd_save.specs.Report.{report_of}

-- the report on the world of a set of edits, of at most so many bytes a body, or the first limit that it is over
abbrev pub reported : ℕ → List Edit → Result (List ℕ) ExportError
reported limit es = unless_over (refusal_of limit (replay es)) (report_of (world_of (replay es)) es)

-- what is made of an exported world, with the refusal of a command
abbrev pub refused_as : Result (List ℕ) ExportError → Result (List ℕ) (Stop Reason)
refused_as (Ok bytes) = Ok bytes
refused_as (Err e) = Err (export_stop e)

-- the world file of a set of edits, of at most so many bytes a body
abbrev pub file_of : ℕ → List Edit → Result (List ℕ) (Stop Reason)
file_of limit es = refused_as (saved limit (replay es))

-- the report on the world of a set of edits, at the same limit
abbrev pub report_on : ℕ → List Edit → Result (List ℕ) (Stop Reason)
report_on limit es = refused_as (reported limit es)

-- where this is refused, so is that, with the same refusal, whether memory is lacking or not
abbrev pub TellsRefusal : {X Y : Type 0} → Result Y (Stop Reason) → Result X (Stop Reason) → Type 0
TellsRefusal (Ok y) result = Unit {0}
TellsRefusal (Err e) result = result ≡ Err e

-- a world file is written, with the line that tells its length
abbrev pub writes_world : List ℕ → Result (List ℕ) (Stop Reason) → Result Effect (Stop Reason)
writes_world out (Ok bytes) = Ok (writes out bytes (bytes_line (length bytes)))
writes_world out (Err e) = Err e

-- a report is printed
abbrev pub prints_report : Result (List ℕ) (Stop Reason) → Result Effect (Stop Reason)
prints_report (Ok text) = Ok (prints text 0)
prints_report (Err e) = Err e

-- what `save` comes to by a set of edits: its world file is written, or the first limit told that it is over
abbrev pub saves : ℕ → List ℕ → List Edit → Result Effect (Stop Reason)
saves limit out es = writes_world out (file_of limit es)

-- what `check` comes to by it: the report on its world is printed, or the first limit told
abbrev pub checks : ℕ → List Edit → Result Effect (Stop Reason)
checks limit es = prints_report (report_on limit es)
