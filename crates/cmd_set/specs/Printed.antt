-- The words of a setting, as a list of edits prints it.
use Rattle.std.specs.Prelude.{◌≡◌, ℕ, ◌+◌, ◌<◌, true, List, [], ◌∷◌, ◌++◌, map, codes, Option, Some, None, option_map, Ok, Err}
use Rattle.std.specs.List.{AllByRecursion}
use Rattle.zed_plaintext.specs.Text.{text_of}
use Rattle.zed_types.specs.Header.{flag_index}
use Rattle.zed_types.specs.declared.names.BoardId.{BoardId}
use Rattle.zed_types.specs.declared.names.StatId.{StatId}
use Rattle.zed_types.specs.declared.header.HeaderNumber.{HeaderNumber}
use Rattle.zed_types.specs.declared.header.HeaderNumber.TheVariants.{Ammo, Gems, Health, Torches, TorchTicks, EnergizerTicks, Score, TimePassed, Hundredths}
use Rattle.zed_types.specs.declared.header.KeyColour.{KeyColour}
use Rattle.zed_types.specs.declared.header.KeyColour.TheVariants.{Blue, Green, Cyan, Red, Purple, Yellow, White}
use Rattle.zed_types.specs.declared.header.HeaderSetting.{HeaderSetting}
use Rattle.zed_types.specs.declared.header.HeaderSetting.TheVariants as header
use Rattle.zed_types.specs.declared.property.Side.{Side}
use Rattle.zed_types.specs.declared.property.Side.TheVariants.{North, South, West, East}
use Rattle.zed_types.specs.declared.property.BoardByte.{BoardByte}
use Rattle.zed_types.specs.declared.property.BoardByte.TheVariants.{MaxShots, StartX, StartY}
use Rattle.zed_types.specs.declared.property.BoardFlag.{BoardFlag}
use Rattle.zed_types.specs.declared.property.BoardFlag.TheVariants.{Dark, ReEnter}
use Rattle.zed_types.specs.declared.property.BoardText.{BoardText}
use Rattle.zed_types.specs.declared.property.BoardText.TheVariants.{Name, Message}
use Rattle.zed_types.specs.declared.property.BoardSetting.{BoardSetting}
use Rattle.zed_types.specs.declared.property.BoardSetting.TheVariants as board
use Rattle.zed_types.specs.declared.stat_field.StatByte.{StatByte}
use Rattle.zed_types.specs.declared.stat_field.StatByte.TheVariants.{X, Y, P1, P2, UnderElement, UnderColour}
use Rattle.zed_types.specs.declared.stat_field.StatNumber.{StatNumber}
use Rattle.zed_types.specs.declared.stat_field.StatNumber.TheVariants.{StepX, StepY, Cycle, Position}
use Rattle.zed_types.specs.declared.stat_field.ThirdParameter.{ThirdParameter}
use Rattle.zed_types.specs.declared.stat_field.ThirdParameter.TheVariants as third
use Rattle.zed_types.specs.declared.stat_field.StatSetting.{StatSetting}
use Rattle.zed_types.specs.declared.stat_field.StatSetting.TheVariants as stat
use Rattle.zed_op.specs.declared.op.Op.{Op}
use Rattle.zed_op.specs.declared.op.Op.TheVariants.{Genesis, SetHeader, BoardAdd, BoardRemove, SetBoard, SetCells, StatAdd, StatRemove, SetStat, TextAdd, TextInsert, TextDelete}
use Rattle.zed_op.specs.Fit.{is_header_in_range, is_property_in_range}
use Rattle.zed_op.specs.Sizes.{IsBoardSetting, IsHeaderSetting, IsName, IsStatSetting}
use Rattle.zed_log.specs.Fields.{boolean, board_name, colour, element, integer, number, optional, quoted, stat_name, text_name}
use Rattle.zed_log.specs.Line.{op_text}
use Rattle.zed_set_words.specs.declared.bad.Expected.TheVariants.{Thing}
use Rattle.zed_set_words.specs.declared.wishes.BoardPlace.TheVariants as board_place
use Rattle.zed_set_words.specs.declared.wishes.StatPlace.TheVariants as stat_place
use Rattle.zed_set_words.specs.declared.wishes.WorldWish.{WorldWish}
use Rattle.zed_set_words.specs.declared.wishes.WorldWish.TheVariants as world_wish
use Rattle.zed_set_words.specs.declared.wishes.BoardWish.{BoardWish}
use Rattle.zed_set_words.specs.declared.wishes.BoardWish.TheVariants as board_wish
use Rattle.zed_set_words.specs.declared.wishes.P3Wish.{P3Wish}
use Rattle.zed_set_words.specs.declared.wishes.P3Wish.TheVariants as p3_wish
use Rattle.zed_set_words.specs.declared.wishes.StatWish.{StatWish}
use Rattle.zed_set_words.specs.declared.wishes.StatWish.TheVariants as stat_wish
use Rattle.zed_set_words.specs.declared.wishes.Wish.TheVariants as wish
use Rattle.zed_set_words.specs.Rows.{wish_of}
use Rattle.zed_set_words.specs.Values.{Word}

-- ---- words, and how they are printed

-- a word of a line: as it is, or the bytes of a string that stands between quotes there
pub data Piece : Type 0 where
  Plain : (word : Word) → Piece
  Quoted : (bytes : List ℕ) → Piece

-- the word itself; of a string the characters of its bytes, in UTF-8
abbrev pub word_of : Piece → Word
word_of (Plain w) = w
word_of (Quoted s) = text_of s

-- how a line has it
abbrev pub printed : Piece → List ℕ
printed (Plain w) = w
printed (Quoted s) = quoted s

-- a line of words, with a space (32) between two of them
abbrev pub line_of : List Piece → List ℕ
line_of [] = []
line_of (p ∷ []) = printed p
line_of (p ∷ q ∷ ps) = printed p ++ 32 ∷ line_of (q ∷ ps)

-- ---- the words of settings

-- a number of the world
abbrev pub number_words : HeaderNumber → List Piece → List Piece
number_words Ammo ps = Plain (codes "ammo") ∷ ps
number_words Gems ps = Plain (codes "gems") ∷ ps
number_words Health ps = Plain (codes "health") ∷ ps
number_words Torches ps = Plain (codes "torches") ∷ ps
number_words TorchTicks ps = Plain (codes "torch") ∷ Plain (codes "ticks") ∷ ps
number_words EnergizerTicks ps = Plain (codes "energizer") ∷ Plain (codes "ticks") ∷ ps
number_words Score ps = Plain (codes "score") ∷ ps
number_words TimePassed ps = Plain (codes "time") ∷ Plain (codes "passed") ∷ ps
number_words Hundredths ps = Plain (codes "hundredths") ∷ ps

-- the colour of a key
abbrev pub key_word : KeyColour → Word
key_word Blue = codes "blue"
key_word Green = codes "green"
key_word Cyan = codes "cyan"
key_word Red = codes "red"
key_word Purple = codes "purple"
key_word Yellow = codes "yellow"
key_word White = codes "white"

-- a register of the world
abbrev pub header_words : HeaderSetting → List Piece
header_words (header.Number f n) = number_words f (Plain (integer n) ∷ [])
header_words (header.Key k b) = Plain (codes "key") ∷ Plain (key_word k) ∷ Plain (boolean b) ∷ []
header_words (header.Saved b) = Plain (codes "saved") ∷ Plain (boolean b) ∷ []
header_words (header.CurrentBoard b) = Plain (codes "current") ∷ Plain (codes "board") ∷ Plain (board_name b) ∷ []
header_words (header.WorldName s) = Plain (codes "world") ∷ Plain (codes "name") ∷ Quoted s ∷ []
header_words (header.Flag k s) = Plain (codes "flag") ∷ Plain (number (1 + flag_index k)) ∷ Quoted s ∷ []

-- a side of a board
abbrev pub side_word : Side → Word
side_word North = codes "north"
side_word South = codes "south"
side_word West = codes "west"
side_word East = codes "east"

-- a byte of a board
abbrev pub board_byte_words : BoardByte → List Piece → List Piece
board_byte_words MaxShots ps = Plain (codes "max") ∷ Plain (codes "shots") ∷ ps
board_byte_words StartX ps = Plain (codes "start") ∷ Plain (codes "x") ∷ ps
board_byte_words StartY ps = Plain (codes "start") ∷ Plain (codes "y") ∷ ps

-- a flag of a board
abbrev pub board_flag_word : BoardFlag → Word
board_flag_word Dark = codes "dark"
board_flag_word ReEnter = codes "re-enter"

-- a string of a board
abbrev pub board_text_word : BoardText → Word
board_text_word Name = codes "name"
board_text_word Message = codes "message"

-- a property of a board
abbrev pub board_words : BoardSetting → List Piece
board_words (board.Byte f n) = board_byte_words f (Plain (number n) ∷ [])
board_words (board.Flag f b) = Plain (board_flag_word f) ∷ Plain (boolean b) ∷ []
board_words (board.TimeLimit n) = Plain (codes "time") ∷ Plain (codes "limit") ∷ Plain (integer n) ∷ []
board_words (board.Exit d b) = Plain (codes "exit") ∷ Plain (side_word d) ∷ Plain (optional board_name b) ∷ []
board_words (board.Text f s) = Plain (board_text_word f) ∷ Quoted s ∷ []
board_words (board.Rank n) = Plain (codes "rank") ∷ Plain (number n) ∷ []

-- a byte of a stat
abbrev pub stat_byte_words : StatByte → ℕ → List Piece
stat_byte_words X n = Plain (codes "x") ∷ Plain (number n) ∷ []
stat_byte_words Y n = Plain (codes "y") ∷ Plain (number n) ∷ []
stat_byte_words P1 n = Plain (codes "p1") ∷ Plain (number n) ∷ []
stat_byte_words P2 n = Plain (codes "p2") ∷ Plain (number n) ∷ []
stat_byte_words UnderElement n = Plain (codes "under") ∷ Plain (codes "element") ∷ Plain (element n) ∷ []
stat_byte_words UnderColour n = Plain (codes "under") ∷ Plain (codes "colour") ∷ Plain (colour n) ∷ []

-- a number of a stat
abbrev pub stat_number_words : StatNumber → List Piece → List Piece
stat_number_words StepX ps = Plain (codes "step") ∷ Plain (codes "x") ∷ ps
stat_number_words StepY ps = Plain (codes "step") ∷ Plain (codes "y") ∷ ps
stat_number_words Cycle ps = Plain (codes "cycle") ∷ ps
stat_number_words Position ps = Plain (codes "position") ∷ ps

-- a third parameter
abbrev pub p3_words : ThirdParameter → List Piece
p3_words (third.Byte n) = Plain (number n) ∷ []
p3_words (third.Board b) = Plain (codes "board") ∷ Plain (board_name b) ∷ []

-- a field of a stat
abbrev pub stat_words : StatSetting → List Piece
stat_words (stat.Byte f n) = stat_byte_words f n
stat_words (stat.Number f n) = stat_number_words f (Plain (integer n) ∷ [])
stat_words (stat.P3 target) = Plain (codes "p3") ∷ p3_words target
stat_words (stat.Follower s) = Plain (codes "follower") ∷ Plain (optional stat_name s) ∷ []
stat_words (stat.Leader s) = Plain (codes "leader") ∷ Plain (optional stat_name s) ∷ []
stat_words (stat.Text t) = Plain (codes "text") ∷ Plain (optional text_name t) ∷ []

-- ---- the wishes of settings: each thing by its name

-- of a register of the world
abbrev pub header_wish : HeaderSetting → WorldWish
header_wish (header.Number f n) = world_wish.Number f n
header_wish (header.Key k b) = world_wish.Key k b
header_wish (header.Saved b) = world_wish.Saved b
header_wish (header.CurrentBoard b) = world_wish.CurrentBoard (board_place.Named b)
header_wish (header.WorldName s) = world_wish.Name s
header_wish (header.Flag k s) = world_wish.Flag k s

-- of a property of a board
abbrev pub property_wish : BoardSetting → BoardWish
property_wish (board.Byte f n) = board_wish.Byte f n
property_wish (board.Flag f b) = board_wish.Flag f b
property_wish (board.TimeLimit n) = board_wish.TimeLimit n
property_wish (board.Exit d b) = board_wish.Exit d (option_map board_place.Named b)
property_wish (board.Text f s) = board_wish.Text f s
property_wish (board.Rank n) = board_wish.Rank n

-- of a third parameter
abbrev pub p3_wish_of : ThirdParameter → P3Wish
p3_wish_of (third.Byte n) = p3_wish.Byte n
p3_wish_of (third.Board b) = p3_wish.Board (board_place.Named b)

-- of a field of a stat
abbrev pub field_wish : StatSetting → StatWish
field_wish (stat.Byte f n) = stat_wish.Byte f n
field_wish (stat.Number f n) = stat_wish.Number f n
field_wish (stat.P3 target) = stat_wish.P3 (p3_wish_of target)
field_wish (stat.Follower s) = stat_wish.Follower (option_map stat_place.Named s)
field_wish (stat.Leader s) = stat_wish.Leader (option_map stat_place.Named s)
field_wish (stat.Text t) = stat_wish.Text t

-- ---- the laws

-- a string has bytes alone
abbrev pub AreBytes : List ℕ → Type 0
AreBytes s = AllByRecursion (λ b. b < 256) s

-- so has that of a register of the world
abbrev pub HasBytes : HeaderSetting → Type 0
HasBytes (header.WorldName s) = AreBytes s
HasBytes (header.Flag k s) = AreBytes s
HasBytes _ = Unit {0}

-- and that of a property of a board
abbrev pub TextHasBytes : BoardSetting → Type 0
TextHasBytes (board.Text f s) = AreBytes s
TextHasBytes _ = Unit {0}

-- a list of edits prints a register of the world so, and its words are read as it
abbrev pub HeaderIsRead : Type 0
HeaderIsRead =
    (setting : HeaderSetting) → IsHeaderSetting setting → HasBytes setting → is_header_in_range setting ≡ true
    → let pieces = Plain (codes "header") ∷ header_words setting in
    (op_text (SetHeader setting) ≡ line_of pieces)
    × (wish_of (map word_of pieces) ≡ Ok (wish.World (header_wish setting)))

-- so of a property of a board
abbrev pub PropertyIsRead : Type 0
PropertyIsRead =
    (b : BoardId) (setting : BoardSetting) → IsName b.name → IsBoardSetting setting → TextHasBytes setting → is_property_in_range setting ≡ true
    → let pieces = Plain (codes "board") ∷ Plain (board_name b) ∷ board_words setting in
    (op_text (SetBoard b setting) ≡ line_of pieces)
    × (wish_of (map word_of pieces) ≡ Ok (wish.Board (board_place.Named b) (property_wish setting)))

-- and of a field of a stat
abbrev pub FieldIsRead : Type 0
FieldIsRead =
    (s : StatId) (setting : StatSetting) → IsName s.name → IsStatSetting setting
    → let pieces = Plain (codes "stat") ∷ Plain (stat_name s) ∷ stat_words setting in
    (op_text (SetStat s setting) ≡ line_of pieces)
    × (wish_of (map word_of pieces) ≡ Ok (wish.Stat (stat_place.Named s) (field_wish setting)))

-- ---- lines of edits that set nothing

-- the first word of the line of such an edit
abbrev pub other_word : Op → Option Word
other_word (Genesis bytes) = Some (codes "genesis")
other_word (SetHeader setting) = None
other_word (BoardAdd s) = Some (codes "add")
other_word (BoardRemove b) = Some (codes "remove")
other_word (SetBoard b setting) = None
other_word (SetCells b r t) = Some (codes "cells")
other_word (StatAdd b f) = Some (codes "add")
other_word (StatRemove s) = Some (codes "remove")
other_word (SetStat s setting) = None
other_word TextAdd = Some (codes "add")
other_word (TextInsert t after bytes) = Some (codes "insert")
other_word (TextDelete t r) = Some (codes "delete")

-- a line begins with this word, and a space (32) stands behind it
abbrev pub BeginsWith : Word → List ℕ → Type 0
BeginsWith word line = (rest : List ℕ) × (line ≡ word ++ 32 ∷ rest)

-- the first word is wrong, whatever stands behind it
abbrev pub IsWrong : Word → Type 0
IsWrong word = (others : List Word) → wish_of (word ∷ others) ≡ Err (record { at = 0; expected = Thing })

-- a list of edits prints an edit that sets nothing so that its first word is wrong
abbrev pub OtherIsNotRead : Type 0
OtherIsNotRead = (op : Op) (word : Word) → other_word op ≡ Some word → BeginsWith word (op_text op) × IsWrong word
