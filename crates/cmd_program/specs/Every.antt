-- What is printed of the programs of a world.
use Rattle.std.specs.Prelude.{ℕ, ◌+◌, ◌-◌, ◌==◌, if◌then◌else◌, List, [], ◌∷◌, ◌++◌, length, slice_get, codes, Option, Some, None, Result, Ok}
use Rattle.zed_types.specs.Table.{tile_at}
use Rattle.zed_world.specs.declared.board.BoardData.{BoardData}
use Rattle.zed_world.specs.declared.stat.StatData.{StatData}
use Rattle.zed_op.specs.declared.op.Edit.{Edit}
use Rattle.zed_edit.specs.Replay.{replay}
use Rattle.zed_export.specs.Limits.{refusal_of}
use Rattle.zed_export.specs.World.{world_of}
use Rattle.zed_log.specs.Fields.{number, place}
use Rattle.zed_log.specs.Stats.{element_of}
use Rattle.zed_plaintext.specs.Text.{text_of}
use Rattle.cmd_program.specs.Codes.{bytes_of}
use Rattle.zed_driver.specs.declared.command.Stop.{Stop}
use Rattle.zed_driver.specs.Effects.{Effect}
use Rattle.zed_refusal.specs.declared.reason.Reason.{Reason}
use Rattle.zed_files.specs.Tells.{printed_as}
use Rattle.cmd_log.specs.Listed.{unless_over}

-- where stat i of board n is: the numbers, the place, and what is there
unfoldable pub head_words : ℕ → BoardData → ℕ → StatData → List ℕ
head_words n b i s =
    codes "board " ++ number n ++ codes " stat " ++ number i ++ codes " " ++ place s.x s.y ++ codes "  " ++ element_of (tile_at b.tiles s.x s.y)

-- the end of a line behind this last byte, unless it is one (10)
abbrev pub end_behind : Option ℕ → List ℕ
end_behind None = 10 ∷ []
end_behind (Some b) = if b == 10 then [] else 10 ∷ []

-- a text whose last line has an end
abbrev pub ended : List ℕ → List ℕ
ended text = text ++ end_behind (slice_get text (length text - 1))

-- a program as a text, behind the line that tells where its stat is
unfoldable pub headed : ℕ → BoardData → ℕ → StatData → List ℕ → List ℕ
headed n b i s program = head_words n b i s ++ 10 ∷ [] ++ ended (text_of program)

-- the program of stat i of board n, if it has one of its own
abbrev pub program_lines : ℕ → BoardData → ℕ → StatData → List ℕ
program_lines n b i s = if length (bytes_of s.code) == 0 then [] else headed n b i s (bytes_of s.code)

-- what comes of the number and the value of each member, numbered from i
abbrev pub each_from : {X : Type 0} → (ℕ → X → List ℕ) → ℕ → List X → List ℕ
each_from make i [] = []
each_from make i (x ∷ xs) = make i x ++ each_from make (i + 1) xs

-- the programs of board n, in the order of its stats
abbrev pub programs_on : ℕ → BoardData → List ℕ
programs_on n b = each_from (program_lines n b) 0 b.stats

-- the programs of boards, in the order of their numbers
abbrev pub every_text : List BoardData → List ℕ
every_text boards = each_from programs_on 0 boards

-- those of the world of a set of edits, of at most 32,767 bytes a body; or the first refusal
abbrev pub every_of : List Edit → Result (List ℕ) (Stop Reason)
every_of es = unless_over (refusal_of 32767 (replay es)) (Ok (every_text (world_of (replay es)).boards))

-- what printing all programs comes to by a set of edits
abbrev pub prints_every : List Edit → Result Effect (Stop Reason)
prints_every es = printed_as (every_of es)
