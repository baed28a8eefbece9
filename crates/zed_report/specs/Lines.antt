-- What lines say behind the names of things: whose a value is that the union shows, and what doesn't show in it.
use Rattle.std.specs.Prelude.{Bool, true, false, ◌==◌, if◌then◌else◌, List, [], ◌∷◌, ℕ, ◌++◌, codes, Option, Some, None}
use Rattle.zed_types.specs.declared.stamp.Stamp.{Stamp}
use Rattle.zed_types.specs.declared.tile.Tile.{Tile}
use Rattle.zed_log.specs.Fields.{number, stamp, tile}
use Rattle.zed_export.specs.declared.error.ExportError.{ExportError}
use Rattle.zed_sides.specs.declared.side.Loss.{Loss}
use Rattle.zed_sides.specs.declared.side.Loss.TheVariants.{Mine, Theirs, Both}
use Rattle.zed_sides.specs.declared.side.Side.{Side}
use Rattle.zed_sides.specs.declared.side.Side.TheVariants as side
use Rattle.zed_compare.specs.declared.finding.Whose.{Whose}
use Rattle.zed_report.specs.Words.{other_word, refusal_words, side_word, whose_word}

-- so many of something
unfoldable pub counted : ℕ → List ℕ → List ℕ
counted n one = number n ++ codes " " ++ one ++ (if n == 1 then [] else codes "s")

-- the edit that wrote it, if there is one
abbrev pub by_words : Option Stamp → List ℕ
by_words None = []
by_words (Some s) = codes " by " ++ stamp s

-- `, and others` where several edits wrote it
abbrev pub others_words : Bool → List ℕ
others_words true = codes ", and others"
others_words false = []

-- which side shows what the union shows, and the edit that wrote it, and others
unfoldable pub shown_words : Option Side → Option Stamp → Bool → List ℕ
shown_words None by others = []
shown_words (Some s) by others = codes " (" ++ side_word s ++ by_words by ++ others_words others ++ codes ")"

-- what a side shows behind this doesn't show
unfoldable pub lost_words : Side → List ℕ
lost_words s = codes "; " ++ side_word s ++ codes " "

-- the tiles of the sides that don't show
abbrev pub lost_tiles : Loss → Tile → Tile → List ℕ
lost_tiles Mine mine theirs = lost_words side.Mine ++ tile mine
lost_tiles Theirs mine theirs = lost_words side.Theirs ++ tile theirs
lost_tiles Both mine theirs = (lost_words side.Mine ++ tile mine) ++ lost_words side.Theirs ++ tile theirs

-- so many edits that a side made there don't show
unfoldable pub edits_lost : Side → ℕ → List ℕ → List ℕ
edits_lost s n there = lost_words s ++ codes "made " ++ counted n (codes "edit") ++ there ++ 10 ∷ []

-- behind the name of a stat whose program both changed
unfoldable pub both_words : ℕ → ℕ → List ℕ
both_words mine theirs =
    codes "  program: both changed it, mine by " ++ counted mine (codes "edit") ++ codes ", theirs by " ++ number theirs ++ codes "; both are kept\n"

-- behind the name of a stat: this side changed its program, and the other one gave it another
unfoldable pub other_words : Side → Option Stamp → ℕ → List ℕ
other_words s by n =
    codes "  program: " ++ other_word s ++ codes " gave it another" ++ by_words by ++ edits_lost s n (codes " in the old one")

-- which side removed what this side has, by which edit, and how many edits this side made on it
unfoldable pub removed_words : Side → Option Stamp → ℕ → List ℕ
removed_words s by n = other_word s ++ codes " removed it" ++ by_words by ++ edits_lost s n (codes " on it")

-- behind the name of a thing of this side, on which it made so many edits, and which the other one removed
unfoldable pub gone_words : Side → Option Stamp → ℕ → List ℕ
gone_words s by n = codes " of " ++ side_word s ++ codes "  " ++ removed_words s by n

-- the line of a world that can't be saved
unfoldable pub unsaved_line : Whose → ExportError → List ℕ
unsaved_line w e = whose_word w ++ codes "  can't be saved: " ++ refusal_words e ++ 10 ∷ []
