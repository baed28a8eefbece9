-- What the laws on texts promise.
use Rattle.std.specs.Prelude.{◌≡◌, ℕ, Bool, true, false, ◌==◌, if◌then◌else◌, List, [], ◌∷◌, ◌++◌, map}
use Rattle.zed_world.specs.declared.board.BoardData.{BoardData}
use Rattle.zed_world.specs.declared.header.Header.{Header}
use Rattle.zed_scene.specs.Scene.{tile_at}
use Rattle.zed_play.specs.Opening.{play_of}
use Rattle.zed_look.specs.declared.look.Picture.{Picture}
use Rattle.zed_look.specs.Coloured.{coloured_text}
use Rattle.zed_look.specs.Drawing.{in_play, place_of, played_at, shown_at}
use Rattle.zed_look.specs.Plain.{characters_of, plain_text}

-- a text without its codes: each begins with escape (27) and ends with `m` (109); the test tells whether the text begins within one
abbrev pub stripped : Bool → List ℕ → List ℕ
stripped within [] = []
stripped true (b ∷ text) = stripped (if b == 109 then false else true) text
stripped false (b ∷ text) = if b == 27 then stripped true text else b ∷ stripped false text

-- without its codes the text for a terminal is the one without colour
abbrev pub CodesOnlyColour : Type 0
CodesOnlyColour = (picture : Picture) → stripped false (coloured_text picture) ≡ plain_text picture

-- the lines of a text, each of which a line feed (10) ends; this is what was read of the first
abbrev pub lines_after : List ℕ → List ℕ → List (List ℕ)
lines_after front [] = []
lines_after front (b ∷ text) = if b == 10 then front ∷ lines_after [] text else lines_after (front ++ b ∷ []) text

-- the lines of the text without colour are the rows of the picture, character by character
abbrev pub LinesAreRows : Type 0
LinesAreRows = (picture : Picture) → lines_after [] (plain_text picture) ≡ map characters_of picture.rows

-- before the first step a playtest looks like its board, but for what is blank in play
abbrev pub PlaytestLooksLikeItsBoard : Type 0
PlaytestLooksLikeItsBoard =
    (h : Header) (b : BoardData) (tick row column : ℕ) →
    played_at (play_of h b tick) row column ≡ in_play (tile_at b.tiles (place_of column row)) (shown_at b tick row column)
