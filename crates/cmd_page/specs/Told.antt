-- What `page` prints.
use Rattle.std.specs.Prelude.{ℕ, List, Result, Ok, Err}
use Rattle.zed_types.specs.Limits.{largest_body}
use Rattle.zed_world.specs.Contents.{Contents}
use Rattle.zed_op.specs.declared.op.Edit.{Edit}
use Rattle.zed_edit.specs.Replay.{replay}
use Rattle.zed_export.specs.declared.error.ExportError.{ExportError}
use Rattle.zed_export.specs.Limits.{exported}
use Rattle.zed_driver.specs.declared.command.Stop.{Stop}
use Rattle.zed_driver.specs.Effects.{Effect}
use Rattle.zed_refusal.specs.declared.reason.Reason.{Reason}
use Rattle.zed_refusal.specs.Stops.{export_stop}
use Rattle.zed_files.specs.Tells.{printed_as}
use Rattle.cmd_page.specs.Page.{page_of}

-- the page of a world, or the limit that the world is over
abbrev pub page_in : Result Contents ExportError → Result (List ℕ) (Stop Reason)
page_in (Ok world) = Ok (page_of world)
page_in (Err e) = Err (export_stop e)

-- the page of a set of edits, of which a body may have 32,767 bytes
abbrev pub told_of : List Edit → Result (List ℕ) (Stop Reason)
told_of es = page_in (exported largest_body (replay es))

-- what `page` comes to by a set of edits
abbrev pub pages : List Edit → Result Effect (Stop Reason)
pages es = printed_as (told_of es)
