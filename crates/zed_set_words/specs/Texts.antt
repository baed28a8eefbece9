-- What an author is told of a word that may not be there.
use Rattle.std.specs.Prelude.{ℕ, List, codes}
use Rattle.zed_set_words.specs.declared.bad.Expected.{Expected}
use Rattle.zed_set_words.specs.declared.bad.Expected.TheVariants.{Thing, Register, Property, Field, TicksWord, PassedWord, BoardWord, NameWord, LimitWord, ShotsWord, StartPart, AtPart, UnderPart, Key, FlagNumber, Side, Byte, Rank, Number, YesOrNo, BoardPlace, BoardOrNone, StatPlace, StatNumber, OtherStat, StatOrNone, TextOrNone, Element, Colour, Target, ShortText, NameText, MessageText, End}

-- what is expected, in words
abbrev pub text_of : Expected → List ℕ
text_of Thing = codes "world, board or stat"
text_of Register = codes "a register of the world: name, start-board, ammo, gems, health, torches, torch ticks, energizer ticks, score, time passed, hundredths, key, flag or saved"
text_of Property = codes "a property of a board: name, message, dark, re-enter, max shots, start, exit, time limit or rank"
text_of Field =
    codes "a field of a stat: at, x, y, p1, p2, p3, leads-to, step, cycle, position, follower, leader, follows, text, shares or under"
text_of TicksWord = codes "ticks"
text_of PassedWord = codes "passed"
text_of BoardWord = codes "board"
text_of NameWord = codes "name"
text_of LimitWord = codes "limit"
text_of ShotsWord = codes "shots"
text_of StartPart = codes "x, y, or a column from 0 to 255"
text_of AtPart = codes "x or y"
text_of UnderPart = codes "element or colour"
text_of Key = codes "blue, green, cyan, red, purple, yellow or white"
text_of FlagNumber = codes "a number from 1 to 10"
text_of Side = codes "north, south, west or east"
text_of Byte = codes "a number from 0 to 255"
text_of Rank = codes "a number from 0 to 65535"
text_of Number = codes "a number from -32768 to 32767"
text_of YesOrNo = codes "yes or no"
text_of BoardPlace = codes "the number or the name of a board"
text_of BoardOrNone = codes "the number or the name of a board, or none"
text_of StatPlace = codes "the number of a board, or the name of a stat"
text_of StatNumber = codes "the number of a stat"
text_of OtherStat = codes "the name of a stat, or its number where the first stat has one"
text_of StatOrNone = codes "the name of a stat, its number where the first stat has one, or none"
text_of TextOrNone = codes "the name of a text, or none"
text_of Element = codes "the word of an element, or a number from 0 to 255"
text_of Colour = codes "0x and two digits, or a number from 0 to 255"
text_of Target = codes "a number from 0 to 255, or board"
text_of ShortText = codes "a string of at most 20 characters of code page 437"
text_of NameText = codes "a string of at most 50 characters of code page 437"
text_of MessageText = codes "a string of at most 58 characters of code page 437"
text_of End = codes "the end of the words"
