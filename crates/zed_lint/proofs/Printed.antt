-- No control byte stands in a line before its end, so there are as many lines as findings.
use Rattle.std.proofs.Common.{◌≡◌, ◌∙◌, ℕ, suc, true, List, [], ◌∷◌, ◌++◌, length, Option, Some, codes, refl, ap}
use Rattle.std.specs.List.{flat_map}
use Rattle.zed_types.specs.declared.property.Side.{Side}
use Rattle.zed_types.specs.declared.property.Side.TheVariants.{North, South, West, East}
use Rattle.zed_types.specs.declared.tile.Place.{Place}
use Rattle.zed_types.specs.declared.tile.Tile.{Tile as TheTile}
use Rattle.zed_log.specs.Fields.{number, place, quoted}
use Rattle.zed_log.specs.Words.{side_word}
use Rattle.zed_log.specs.ListLaws.{lines_in}
use Rattle.zed_log.specs.Stats.{element_of}
use Rattle.zed_log.proofs.Counted.{one_more}
use Rattle.zed_log.proofs.Printed.{plain, both, number_is, quoted_is, place_is}
use Rattle.zed_log.proofs.ListPrinted.{element_of_is}
use Rattle.zed_lint.specs.Lines.{finding_line, finding_words, line_at_words, names_words, spot_words, told, what_words}
use Rattle.zed_lint.specs.declared.finding.Finding.{Finding}
use Rattle.zed_lint.specs.declared.finding.Spot.{Spot}
use Rattle.zed_lint.specs.declared.finding.Spot.TheVariants.{World, Board, Tile, Stat}
use Rattle.zed_lint.specs.declared.finding.What.{What}
use Rattle.zed_lint.specs.declared.finding.What.TheVariants.{LongFile, LongWorldName, LongBody, LongBoardName, Utf8Name, NoPlayer, Players, ExitToItself, UnknownElement, NoStat}
use Rattle.zed_lint.specs.declared.finding.What.TheVariants.{OutsideTable, NeedlessStat, PassageToItself, NoEndOfLine, LineFeed, Utf8Program, NoLabel}
use Rattle.zed_lint.specs.declared.finding.What.TheVariants.{NoChoice, LowName, LongLine, NoCommand, NoDirection, NoKind, NoCounter, UnsetFlag, NoName}

-- a text, and a number
counted : (a : List ℕ) (n : ℕ) → plain a ≡ true → plain (a ++ number n) ≡ true
counted a n is = both a (number n) is (number_is n)

-- and a place and an element behind them
placed : (a : List ℕ) (p : Place) (tile : Option TheTile) → plain a ≡ true
    → plain (a ++ codes " " ++ place p.x p.y ++ codes "  " ++ element_of tile) ≡ true
placed a p tile is =
    let b = a ++ codes " " in
    let c = b ++ place p.x p.y in
    let at = both b (place p.x p.y) (both a (codes " ") is refl) (place_is p.x p.y) in
    both (c ++ codes "  ") (element_of tile) (both c (codes "  ") at refl) (element_of_is tile)

spot_is : (s : Spot) → plain (spot_words s) ≡ true
spot_is World = refl
spot_is (Board n) = counted (codes "board ") n refl
spot_is (Tile n p t) = placed (codes "board " ++ number n) p (Some t) (counted (codes "board ") n refl)
spot_is (Stat n i p tile) =
    let a = codes "board " ++ number n in
    let numbered = counted (a ++ codes " stat ") i (both a (codes " stat ") (counted (codes "board ") n refl) refl) in
    placed (a ++ codes " stat " ++ number i) p tile numbered

side_is : (s : Side) → plain (side_word s) ≡ true
side_is North = refl
side_is South = refl
side_is West = refl
side_is East = refl

-- a number between two texts
between : (a b : List ℕ) (n : ℕ) → plain a ≡ true → plain b ≡ true → plain (a ++ number n ++ b) ≡ true
between a b n front back = both (a ++ number n) b (counted a n front) back

names_is : (at : ℕ) → plain (names_words at) ≡ true
unfolding names_words
names_is at = between (codes "names at ") (codes " a label that no program of its board has  ") at refl refl

-- a word at a place
told_is : (front : List ℕ) (at : ℕ) (middle word : List ℕ) → plain front ≡ true → plain middle ≡ true → plain (told front at middle word) ≡ true
unfolding told
told_is front at middle word f m = both (front ++ number at ++ middle) (quoted word) (between front middle at f m) (quoted_is word)

line_at_is : (at : ℕ) → plain (line_at_words at) ≡ true
unfolding line_at_words
line_at_is at = between (codes "program has at ") (codes " a line of ") at refl refl

what_is : (w : What) → plain (what_words w) ≡ true
what_is (LongFile n) = between (codes "file of ") (codes " bytes, over 350000") n refl refl
what_is (LongWorldName n) = between (codes "name of ") (codes " bytes, over 8") n refl refl
what_is (LongBody n) = between (codes "body of ") (codes " bytes, over 20000") n refl refl
what_is (LongBoardName n) = between (codes "name of ") (codes " bytes, over 34") n refl refl
what_is Utf8Name = refl
what_is NoPlayer = refl
what_is (Players n) = between [] (codes " players") n refl refl
what_is (ExitToItself side) =
    both (codes "exit " ++ side_word side) (codes "leads to its own board") (both (codes "exit ") (side_word side) refl (side_is side)) refl
what_is (UnknownElement n) = counted (codes "element that ZZT doesn't know, tiles ") n refl
what_is NoStat = refl
what_is OutsideTable = refl
what_is NeedlessStat = refl
what_is PassageToItself = refl
what_is NoEndOfLine = refl
what_is (LineFeed at) = counted (codes "program has a line feed at ") at refl
what_is Utf8Program = refl
what_is (NoLabel at label) = both (names_words at) (quoted label) (names_is at) (quoted_is label)
what_is (NoChoice at label) = told_is (codes "offers at ") at (codes " a label that no program of its board has  ") label refl refl
what_is (LowName at) = counted (codes "program has a name below its first line at ") at refl
what_is (LongLine at columns) = between (line_at_words at) (codes " columns, over 42") columns (line_at_is at) refl
what_is (NoCommand at word) = told_is (codes "names at ") at (codes " neither a command nor a label of its board  ") word refl refl
what_is (NoDirection at) = counted (codes "names no direction at ") at refl
what_is (NoKind at) = counted (codes "names no kind of tile at ") at refl
what_is (NoCounter at) = counted (codes "names no counter at ") at refl
what_is (UnsetFlag at word) = told_is (codes "asks at ") at (codes " for a flag that nothing sets  ") word refl refl
what_is (NoName at name) = told_is (codes "binds at ") at (codes " to a name that no program of its board has  ") name refl refl

pub finding_is : (f : Finding) → plain (finding_words f) ≡ true
unfolding finding_words
finding_is f =
    let spot = both (spot_words f.spot) (codes "  ") (spot_is f.spot) refl in
    both (spot_words f.spot ++ codes "  ") (what_words f.what) spot (what_is f.what)

pub lines_counted : (fs : List Finding) → lines_in (flat_map finding_line fs) ≡ length fs
lines_counted [] = refl
lines_counted (f ∷ fs) = one_more (finding_words f) (flat_map finding_line fs) (finding_is f) ∙ ap suc (lines_counted fs)
