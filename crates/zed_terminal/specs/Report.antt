-- What is told of a playtest at its end.
use Rattle.std.specs.Prelude.{ℕ, List, [], ◌∷◌, ◌++◌, Option, Some, None, codes}
use Rattle.std.specs.Fmt.{decimal}
use Rattle.std.specs.List.{flat_map}
use Rattle.zed_play.specs.declared.ending.Ending.{Ending}
use Rattle.zed_play.specs.declared.ending.Ending.TheVariants.{Left, Died, Failed}
use Rattle.zed_play.specs.Playtest.{Playtest}
use Rattle.zed_look.specs.Glyphs.{glyph}

-- a text with a line feed (10) at its end
abbrev pub ended : List ℕ → List ℕ
ended text = text ++ 10 ∷ []

-- a message, in characters that a terminal shows
abbrev pub message_line : List ℕ → List ℕ
message_line message = codes "> " ++ ended (flat_map glyph message)

-- how a playtest stands: the tick of the next step, or how it ended
abbrev pub standing_line : Option Ending → ℕ → List ℕ
standing_line (Some (Left board)) tick = codes "left " ++ ended (decimal board)
standing_line (Some Died) tick = ended (codes "died")
standing_line (Some Failed) tick = codes "tick " ++ ended (decimal tick)
standing_line None tick = codes "tick " ++ ended (decimal tick)

-- its last messages, and how it stands
abbrev pub report_of : Playtest → List ℕ
report_of p = flat_map message_line p.game.messages ++ standing_line p.ending p.tick
