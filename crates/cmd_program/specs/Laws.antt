-- What the laws on programs as texts promise.
use Rattle.std.specs.Prelude.{◌≡◌, ◌<◌, ℕ, List, [], length, slice_get, Some, Ok}
use Rattle.std.specs.List.{AllByRecursion}
use Rattle.zed_world.specs.Normal.{IsNormal}
use Rattle.zed_world.specs.declared.board.BoardData.{BoardData}
use Rattle.zed_world.specs.declared.stat.StatData.{StatData}
use Rattle.zed_op.specs.declared.op.Edit.{Edit}
use Rattle.zed_edit.specs.Replay.{replay}
use Rattle.zed_export.specs.World.{world_of}
use Rattle.zed_plaintext.specs.Reading.{program_in}
use Rattle.cmd_program.specs.Codes.{program_of}
use Rattle.zed_driver.specs.Effects.{Effect, effect}
use Rattle.cmd_take.specs.Taking.{taken_line}
use Rattle.cmd_program.specs.Printed.{printed}
use Rattle.cmd_program.specs.Setting.{Sets}

-- where the text that is printed of a stat is set, FILE isn't written, and no edits are told: of a world that can stand in a file, as each that is
-- exported can, and a program of bytes
abbrev pub PrintedSetsNothing : Type 0
PrintedSetsNothing =
    (es : List Edit) (board stat : ℕ) (b : BoardData) (s : StatData)
    → IsNormal (world_of (replay es))
    → slice_get (world_of (replay es)).boards board ≡ Some b
    → slice_get b.stats stat ≡ Some s
    → AllByRecursion (λ c. c < 256) (program_of b.stats s.code)
    → (text program : List ℕ)
    → printed board stat es ≡ Ok text
    → program_in text ≡ Ok program
    → (file : List ℕ) (replica number : ℕ) (x : Effect)
    → Sets file replica board stat program (number, es) (Ok x)
    → x ≡ effect [] (Some (taken_line [] (length es))) 0
