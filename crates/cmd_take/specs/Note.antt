-- The note of `take`: what it took, where that is more than cells of boards that stay.
use Rattle.std.specs.Prelude.{ℕ, ◌+◌, ◌==◌, if◌then◌else◌, List, [], ◌∷◌, ◌++◌, codes, length, Result, Ok, Err}
use Rattle.std.specs.List.{flat_map, list_any}
use Rattle.zed_types.specs.declared.property.BoardText.TheVariants.{Name}
use Rattle.zed_op.specs.declared.op.Op.{Op}
use Rattle.zed_op.specs.declared.op.Op.TheVariants.{BoardAdd}
use Rattle.zed_op.specs.declared.op.Edit.{Edit}
use Rattle.zed_edit.specs.declared.plain.Board.{Board}
use Rattle.zed_edit.specs.declared.plain.Plain.{Plain}
use Rattle.zed_view.specs.View.{board_text}
use Rattle.zed_log.specs.Fields.{number, quoted}
use Rattle.zed_driver.specs.Effects.{Effect, noted}
use Rattle.zed_driver.specs.declared.command.Stop.TheVariants.{Refused}
use Rattle.cmd_take.specs.declared.changes.Counts.{Counts}
use Rattle.cmd_take.specs.declared.opening.Forcing.{Forcing}
use Rattle.cmd_take.specs.declared.reason.DrawingReason.TheVariants.{TakesAway}
use Rattle.cmd_take.specs.Changes.{are_too_many, counts, is_more, registers, removals, removes, world_boards}
use Rattle.cmd_take.specs.Stops.{DrawingStop}

-- a count, and the word for one or for more
unfoldable pub counted : ℕ → List ℕ → List ℕ → List ℕ
counted n one many = number n ++ 32 ∷ (if n == 1 then one else many)

-- the same behind a comma; nothing where it is 0
unfoldable pub and_counted : ℕ → List ℕ → List ℕ → List ℕ
and_counted n one many = if n == 0 then [] else codes ", " ++ counted n one many

-- a board, by its number and its name
unfoldable pub board_told : ℕ → List ℕ → List ℕ
board_told n name = codes "board " ++ number n ++ 32 ∷ quoted name

-- the line of a board that was removed
unfoldable pub removed_line : ℕ → List ℕ → List ℕ
removed_line n name = board_told n name ++ codes " removed\n"

-- the line of one that was changed
unfoldable pub counts_line : ℕ → List ℕ → Counts → List ℕ
counts_line n name c =
    board_told n name ++ codes ": " ++ counted c.cells (codes "cell") (codes "cells") ++ and_counted c.properties (codes "property") (codes "properties")
    ++ and_counted c.stats (codes "stat") (codes "stats") ++ and_counted c.programs (codes "program") (codes "programs") ++ codes "\n"

-- the line of a board of the base, if it was removed, or more than cells of it changed
abbrev pub board_line : List Edit → ℕ → Board → List ℕ
board_line es n b =
    if list_any (λ e. removes b.id e.op) es then removed_line n (board_text Name b.properties)
    else (if is_more (counts b es) then counts_line n (board_text Name b.properties) (counts b es) else [])

-- those of boards from this number on
abbrev pub board_lines : List Edit → ℕ → List Board → List ℕ
board_lines es n [] = []
board_lines es n (b ∷ bs) = board_line es n b ++ board_lines es (n + 1) bs

-- the line of a board that was added
abbrev pub added_line : Op → List ℕ
added_line (BoardAdd name) = codes "board " ++ quoted name ++ codes " added\n"
added_line _ = []

-- how many registers of the header are set, if some are
abbrev pub header_line : List Edit → List ℕ
header_line es = if registers es == 0 then [] else codes "world: " ++ counted (registers es) (codes "register") (codes "registers") ++ codes "\n"

-- what edits are that were taken beside what this shows: the header, its boards by their numbers, and new boards
abbrev pub note : Plain → List Edit → List ℕ
note p es = header_line es ++ board_lines es 0 (world_boards p) ++ flat_map (λ e. added_line e.op) es

-- the note of edits that are taken; too many boards go only where that is forced
abbrev pub told : Forcing → Plain → List Edit → Result (List ℕ) DrawingStop
told forcing p es =
    if are_too_many forcing (length (world_boards p)) (removals es) then Err (Refused (TakesAway (removals es))) else Ok (note p es)

-- the same effect with a note that says something
abbrev pub noting : List ℕ → Effect → Effect
noting [] x = x
noting (c ∷ cs) x = noted (c ∷ cs) x

-- an effect with the note that is told, if it isn't refused
abbrev pub with_told : Result (List ℕ) DrawingStop → Effect → Result Effect DrawingStop
with_told (Ok text) x = Ok (noting text x)
with_told (Err e) x = Err e
