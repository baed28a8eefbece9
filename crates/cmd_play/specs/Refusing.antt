-- What is told of a playtest that doesn't go on.
use Rattle.std.specs.Prelude.{Result, Ok, Err}
use Rattle.zed_files.specs.declared.refusal.Refusal.{Refusal}
use Rattle.zed_files.specs.declared.refusal.Refusal.TheVariants as refusal
use Rattle.zed_terminal.specs.declared.error.TurnError.{TurnError}
use Rattle.zed_terminal.specs.declared.error.TurnError.TheVariants as turn

-- the refusal of a command for one of a playtest
abbrev pub turn_refusal : TurnError → Refusal
turn_refusal turn.Memory = refusal.Memory
turn_refusal turn.NoWords = refusal.NoWords
turn_refusal turn.ScreenFault = refusal.ScreenFault
turn_refusal turn.KeyFault = refusal.KeyFault
turn_refusal turn.TooManyTurns = refusal.TooManyTurns

-- the answer of a command for one of a playtest
abbrev pub told_of : {X : Type 0} → Result X TurnError → Result X Refusal
told_of (Ok x) = Ok x
told_of (Err e) = Err (turn_refusal e)
