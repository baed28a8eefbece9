-- What the laws on worlds with other programs promise.
use Rattle.std.specs.Prelude.{◌≡◌, ℕ, slice_get, Some, Result, Ok}
use Rattle.zed_world.specs.Contents.{Contents}
use Rattle.zed_world.specs.Normal.{HasNormalParts}
use Rattle.zed_world.specs.Writing.{HasText}
use Rattle.zed_world.specs.declared.board.BoardData.{BoardData}
use Rattle.zed_world.specs.declared.stat.StatData.{StatData}
use Rattle.cmd_program.specs.declared.error.ReprogramError.{ReprogramError}
use Rattle.cmd_program.specs.Codes.{program_of}
use Rattle.cmd_program.specs.Worlds.{IsReprogrammed}

-- a world that a file can spell stays as it is where a stat gets the program that it has
abbrev pub OwnProgramStays : Type 0
OwnProgramStays =
    (w : Contents) (board stat : ℕ) (b : BoardData) (s : StatData) (r : Result Contents ReprogramError)
    → HasNormalParts w
    → HasText 32767 w
    → slice_get w.boards board ≡ Some b
    → slice_get b.stats stat ≡ Some s
    → IsReprogrammed w board stat (program_of b.stats s.code) r
    → r ≡ Ok w
