-- The lines of the edits that a filter asks for.
use Rattle.std.specs.Prelude.{ℕ, Bool, List, filter, Result, Ok, Err}
use Rattle.zed_op.specs.declared.op.Edit.{Edit}
use Rattle.zed_edit.specs.Replay.{replay}
use Rattle.zed_document.specs.Held.{held_stamps, is_among}
use Rattle.zed_filter.specs.declared.error.FilterError.{FilterError}
use Rattle.zed_filter.specs.declared.error.FilterError.TheVariants as filtering
use Rattle.zed_filter.specs.declared.filter.Filter.{Filter}
use Rattle.zed_filter.specs.declared.sought.Sought.{Sought}
use Rattle.zed_filter.specs.Passing.{passes}
use Rattle.zed_filter.specs.Sought.{sought_of}
use Rattle.zed_log.specs.declared.length.Length.{Length}
use Rattle.zed_log.specs.Laws.{log_at}
use Rattle.zed_driver.specs.declared.command.Stop.{Stop}
use Rattle.zed_driver.specs.Effects.{Effect}
use Rattle.zed_refusal.specs.declared.reason.Reason.{Reason}
use Rattle.zed_files.specs.Tells.{printed_as}
use Rattle.zed_driver.specs.declared.command.Stop.TheVariants.{Refused}
use Rattle.zed_refusal.specs.declared.reason.Reason.TheVariants.{NoBoard, OutOfRange}

-- why a command stops at a filter
abbrev pub filter_stop : FilterError → Stop Reason
filter_stop filtering.NoBoard = Refused NoBoard
filter_stop filtering.OutOfRange = Refused OutOfRange

-- whether one of these edits is held
abbrev pub is_held : List Edit → Edit → Bool
is_held es e = is_among (held_stamps es) e.stamp

-- a line for each of these edits that is all that is asked for, short or in full, with a mark in front of those that are held
abbrev pub log_with : Length → List Edit → Result Sought FilterError → Result (List ℕ) (Stop Reason)
log_with l es (Err e) = Err (filter_stop e)
log_with l es (Ok sought) = Ok (log_at l (is_held es) (filter (passes (replay es) sought) es))

-- a line for each of these edits that passes a filter, or the first refusal
abbrev pub log_of : Length → Filter → List Edit → Result (List ℕ) (Stop Reason)
log_of l f es = log_with l es (sought_of (replay es) f)

-- what `log` comes to by a set of edits
abbrev pub logs : Length → Filter → List Edit → Result Effect (Stop Reason)
logs l f es = printed_as (log_of l f es)
