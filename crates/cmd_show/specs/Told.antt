-- What is told of a playtest.
use Rattle.zed_play.specs.declared.ending.Ending.{Ending}
use Rattle.zed_play.specs.declared.ending.Ending.TheVariants.{Left, Died, Failed}
use Rattle.std.specs.Prelude.{ℕ, List, ◌++◌, Option, Some, None, codes}
use Rattle.std.specs.List.{flat_map}
use Rattle.std.specs.Fmt.{decimal}
use Rattle.zed_play.specs.Playtest.{Playtest}
use Rattle.zed_files.specs.Lines.{ended}

-- a message of a playtest
abbrev pub message_line : List ℕ → List ℕ
message_line text = codes "> " ++ ended text

-- how a playtest stands: the tick of the next step, or how it ended
abbrev pub standing_line : Option Ending → ℕ → List ℕ
standing_line (Some (Left board)) tick = codes "left " ++ ended (decimal board)
standing_line (Some Died) tick = ended (codes "died")
standing_line (Some Failed) tick = codes "tick " ++ ended (decimal tick)
standing_line None tick = codes "tick " ++ ended (decimal tick)

-- what is told of a playtest: its messages, and how it stands
abbrev pub told_of : Playtest → List ℕ
told_of p = flat_map message_line p.game.messages ++ standing_line p.ending p.tick
