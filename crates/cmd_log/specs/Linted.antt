-- What is found in the world of a set of edits.
use Rattle.std.specs.Prelude.{ℕ, List, Result, Ok, Err, if◌then◌else◌, nat_lt}
use Rattle.zed_op.specs.declared.op.Edit.{Edit}
use Rattle.zed_edit.specs.Replay.{replay}
use Rattle.zed_export.specs.Limits.{refusal_of}
use Rattle.zed_export.specs.World.{world_of}
use Rattle.zed_lint.specs.Lines.{lines_of}
use Rattle.zed_driver.specs.declared.command.Stop.{Stop}
use Rattle.zed_refusal.specs.declared.reason.Reason.{Reason}
use Rattle.zed_driver.specs.Effects.{Effect, prints}
use Rattle.zed_log.specs.ListLaws.{lines_in}
use Rattle.cmd_log.specs.declared.linting.Strictness.{Strictness}
use Rattle.cmd_log.specs.declared.linting.Strictness.TheVariants.{Lenient, Strict}
use Rattle.cmd_log.specs.Listed.{unless_over}

-- a line for each thing that is found in the world of a set of edits, of at most 32,767 bytes a body; or the first refusal
abbrev pub lint_of : List Edit → Result (List ℕ) (Stop Reason)
lint_of es = unless_over (refusal_of 32767 (replay es)) (Ok (lines_of (world_of (replay es))))

-- 1 where lines were found, if findings are told by the status too
abbrev pub status_of : Strictness → ℕ → ℕ
status_of Lenient lines = 0
status_of Strict lines = if nat_lt 0 lines then 1 else 0

-- the lines are printed, with that status
abbrev pub printed_with : Strictness → Result (List ℕ) (Stop Reason) → Result Effect (Stop Reason)
printed_with strictness (Ok text) = Ok (prints text (status_of strictness (lines_in text)))
printed_with strictness (Err e) = Err e

-- what `lint` comes to by a set of edits
abbrev pub lints : Strictness → List Edit → Result Effect (Stop Reason)
lints strictness es = printed_with strictness (lint_of es)
