-- The lines of what is found.
use Rattle.std.specs.List.{flat_map}
use Rattle.std.specs.Prelude.{ℕ, List, [], ◌∷◌, ◌++◌, codes, Some}
use Rattle.zed_log.specs.Stats.{element_of}
use Rattle.zed_log.specs.Fields.{number, place, quoted}
use Rattle.zed_log.specs.Words.{side_word}
use Rattle.zed_world.specs.Contents.{Contents}
use Rattle.zed_lint.specs.World.{findings}
use Rattle.zed_lint.specs.declared.finding.Finding.{Finding}
use Rattle.zed_lint.specs.declared.finding.Spot.{Spot}
use Rattle.zed_lint.specs.declared.finding.Spot.TheVariants.{World, Board, Tile, Stat}
use Rattle.zed_lint.specs.declared.finding.What.{What}
use Rattle.zed_lint.specs.declared.finding.What.TheVariants.{LongFile, LongWorldName, LongBody, LongBoardName, Utf8Name, NoPlayer, Players, ExitToItself, UnknownElement, NoStat}
use Rattle.zed_lint.specs.declared.finding.What.TheVariants.{OutsideTable, NeedlessStat, PassageToItself, NoEndOfLine, LineFeed, Utf8Program, NoLabel}
use Rattle.zed_lint.specs.declared.finding.What.TheVariants.{NoChoice, LowName, LongLine, NoCommand, NoDirection, NoKind, NoCounter, UnsetFlag, NoName}

-- where something was found: the numbers of the board and the stat, the place, the element there
abbrev pub spot_words : Spot → List ℕ
spot_words World = codes "world"
spot_words (Board n) = codes "board " ++ number n
spot_words (Tile n p t) = codes "board " ++ number n ++ codes " " ++ place p.x p.y ++ codes "  " ++ element_of (Some t)
spot_words (Stat n i p tile) =
    codes "board " ++ number n ++ codes " stat " ++ number i ++ codes " " ++ place p.x p.y ++ codes "  " ++ element_of tile

-- at a place of a program a label is named
unfoldable pub names_words : ℕ → List ℕ
names_words at = codes "names at " ++ number at ++ codes " a label that no program of its board has  "

-- a word that is named at a place of a program
unfoldable pub told : List ℕ → ℕ → List ℕ → List ℕ → List ℕ
told front at middle word = front ++ number at ++ middle ++ quoted word

-- at a place of a program a line begins
unfoldable pub line_at_words : ℕ → List ℕ
line_at_words at = codes "program has at " ++ number at ++ codes " a line of "

-- what was found
abbrev pub what_words : What → List ℕ
what_words (LongFile bytes) = codes "file of " ++ number bytes ++ codes " bytes, over 350000"
what_words (LongWorldName bytes) = codes "name of " ++ number bytes ++ codes " bytes, over 8"
what_words (LongBody bytes) = codes "body of " ++ number bytes ++ codes " bytes, over 20000"
what_words (LongBoardName bytes) = codes "name of " ++ number bytes ++ codes " bytes, over 34"
what_words Utf8Name = codes "name is UTF-8, not code page 437"
what_words NoPlayer = codes "no player"
what_words (Players count) = number count ++ codes " players"
what_words (ExitToItself side) = codes "exit " ++ side_word side ++ codes "leads to its own board"
what_words (UnknownElement count) = codes "element that ZZT doesn't know, tiles " ++ number count
what_words NoStat = codes "has no stat"
what_words OutsideTable = codes "is outside the table"
what_words NeedlessStat = codes "has no use for a stat"
what_words PassageToItself = codes "leads to its own board"
what_words NoEndOfLine = codes "program has no end of line"
what_words (LineFeed at) = codes "program has a line feed at " ++ number at
what_words Utf8Program = codes "program is UTF-8, not code page 437"
what_words (NoLabel at label) = names_words at ++ quoted label
what_words (NoChoice at label) = told (codes "offers at ") at (codes " a label that no program of its board has  ") label
what_words (LowName at) = codes "program has a name below its first line at " ++ number at
what_words (LongLine at columns) = line_at_words at ++ number columns ++ codes " columns, over 42"
what_words (NoCommand at word) = told (codes "names at ") at (codes " neither a command nor a label of its board  ") word
what_words (NoDirection at) = codes "names no direction at " ++ number at
what_words (NoKind at) = codes "names no kind of tile at " ++ number at
what_words (NoCounter at) = codes "names no counter at " ++ number at
what_words (UnsetFlag at word) = told (codes "asks at ") at (codes " for a flag that nothing sets  ") word
what_words (NoName at name) = told (codes "binds at ") at (codes " to a name that no program of its board has  ") name

-- what stands before the line feed in the line of a finding
unfoldable pub finding_words : Finding → List ℕ
finding_words f = spot_words f.spot ++ codes "  " ++ what_words f.what

-- the line of a finding
abbrev pub finding_line : Finding → List ℕ
finding_line f = finding_words f ++ 10 ∷ []

-- a line for each thing that is found in a world
abbrev pub lines_of : Contents → List ℕ
lines_of w = flat_map finding_line (findings w)
