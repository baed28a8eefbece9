-- Playtests over boards in which the player leaves none.
use Rattle.std.specs.Prelude.{◌≢◌, ℕ, Some, None, Ok}
use Rattle.zed_world.specs.Contents.{Contents}
use Rattle.zed_play.specs.declared.ending.Ending.TheVariants.{Left}
use Rattle.zed_play.specs.Playtest.{Playtest}
use Rattle.zed_terminal.specs.Course.{Point}
use Rattle.zed_terminal.specs.Performing.{Performs}
use Rattle.zed_terminal.specs.Stage.{Stage}

-- the player didn't leave for a board
abbrev pub IsStill : Playtest → Type 0
IsStill p = (board : ℕ) → p.ending ≢ Some (Left board)

-- what is played of one board to an end at which the player hasn't left it is so played over boards too
abbrev pub SameUntilLeft : Type 0
SameUntilLeft =
    (w : Contents) (first last : Point) (old new : Stage) →
    IsStill last.play → Performs None first old new (Ok last) → Performs (Some w) first old new (Ok last)
