-- The words of sides, of registers, and of what can't be saved.
use Rattle.std.specs.Prelude.{List, ℕ, ◌++◌, codes}
use Rattle.zed_types.specs.declared.header.FlagSlot.{FlagSlot}
use Rattle.zed_types.specs.declared.header.FlagSlot.TheVariants.{First, Second, Third, Fourth, Fifth, Sixth, Seventh, Eighth, Ninth, Tenth}
use Rattle.zed_types.specs.declared.header.HeaderNumber.{HeaderNumber}
use Rattle.zed_types.specs.declared.header.HeaderNumber.TheVariants.{Ammo, Gems, Health, Torches, TorchTicks, EnergizerTicks, Score, TimePassed, Hundredths}
use Rattle.zed_types.specs.declared.header.KeyColour.{KeyColour}
use Rattle.zed_types.specs.declared.header.KeyColour.TheVariants.{Blue, Green, Cyan, Red, Purple, Yellow, White}
use Rattle.zed_types.specs.declared.property.BoardFlag.TheVariants.{Dark, ReEnter}
use Rattle.zed_types.specs.declared.property.Side.{Side as Edge}
use Rattle.zed_types.specs.declared.property.Side.TheVariants.{North, South, West, East}
use Rattle.zed_log.specs.Fields.{number}
use Rattle.zed_export.specs.declared.error.ExportError.{ExportError}
use Rattle.zed_export.specs.declared.error.ExportError.TheVariants as refusal
use Rattle.zed_sides.specs.declared.side.Side.{Side}
use Rattle.zed_sides.specs.declared.side.Side.TheVariants.{Mine, Theirs}
use Rattle.zed_compare.specs.declared.finding.Whose.{Whose}
use Rattle.zed_compare.specs.declared.finding.Whose.TheVariants as whose
use Rattle.zed_compare.specs.declared.registers.BoardRegister.{BoardRegister}
use Rattle.zed_compare.specs.declared.registers.BoardRegister.TheVariants as board
use Rattle.zed_compare.specs.declared.registers.StatRegister.{StatRegister}
use Rattle.zed_compare.specs.declared.registers.StatRegister.TheVariants as stat
use Rattle.zed_compare.specs.declared.registers.WorldRegister.{WorldRegister}
use Rattle.zed_compare.specs.declared.registers.WorldRegister.TheVariants as world

-- a side
abbrev pub side_word : Side → List ℕ
side_word Mine = codes "mine"
side_word Theirs = codes "theirs"

-- the other side
abbrev pub other_word : Side → List ℕ
other_word Mine = codes "theirs"
other_word Theirs = codes "mine"

-- a number of the world
abbrev pub number_word : HeaderNumber → List ℕ
number_word Ammo = codes "ammo"
number_word Gems = codes "gems"
number_word Health = codes "health"
number_word Torches = codes "torches"
number_word TorchTicks = codes "torch ticks"
number_word EnergizerTicks = codes "energizer ticks"
number_word Score = codes "score"
number_word TimePassed = codes "time passed"
number_word Hundredths = codes "hundredths"

-- a key
abbrev pub key_word : KeyColour → List ℕ
key_word Blue = codes "key blue"
key_word Green = codes "key green"
key_word Cyan = codes "key cyan"
key_word Red = codes "key red"
key_word Purple = codes "key purple"
key_word Yellow = codes "key yellow"
key_word White = codes "key white"

-- a flag, by its number
abbrev pub flag_word : FlagSlot → List ℕ
flag_word First = codes "flag 1"
flag_word Second = codes "flag 2"
flag_word Third = codes "flag 3"
flag_word Fourth = codes "flag 4"
flag_word Fifth = codes "flag 5"
flag_word Sixth = codes "flag 6"
flag_word Seventh = codes "flag 7"
flag_word Eighth = codes "flag 8"
flag_word Ninth = codes "flag 9"
flag_word Tenth = codes "flag 10"

-- a register of the world
abbrev pub world_word : WorldRegister → List ℕ
world_word (world.Number f) = number_word f
world_word (world.Key k) = key_word k
world_word world.Saved = codes "saved"
world_word world.StartBoard = codes "start board"
world_word world.Name = codes "name"
world_word (world.Flag k) = flag_word k

-- an exit
abbrev pub exit_word : Edge → List ℕ
exit_word North = codes "exit north"
exit_word South = codes "exit south"
exit_word West = codes "exit west"
exit_word East = codes "exit east"

-- a register of a board
abbrev pub board_word : BoardRegister → List ℕ
board_word board.Name = codes "name"
board_word board.Message = codes "message"
board_word board.Rank = codes "rank"
board_word board.MaxShots = codes "max shots"
board_word (board.Flag Dark) = codes "dark"
board_word (board.Flag ReEnter) = codes "re-enter"
board_word board.TimeLimit = codes "time limit"
board_word board.Start = codes "start"
board_word (board.Exit f) = exit_word f

-- a register of a stat
abbrev pub stat_word : StatRegister → List ℕ
stat_word stat.Place = codes "place"
stat_word stat.Step = codes "step"
stat_word stat.Under = codes "under"
stat_word stat.Cycle = codes "cycle"
stat_word stat.Position = codes "position"
stat_word stat.P1 = codes "p1"
stat_word stat.P2 = codes "p2"
stat_word stat.Follower = codes "follower"
stat_word stat.Leader = codes "leader"
stat_word stat.P3 = codes "p3"

-- whose world can't be saved
abbrev pub whose_word : Whose → List ℕ
whose_word whose.Mine = codes "mine"
whose_word whose.Theirs = codes "theirs"
whose_word whose.Merged = codes "world"

-- why it can't be saved
abbrev pub refusal_words : ExportError → List ℕ
refusal_words refusal.Memory = codes "Memory"
refusal_words refusal.Stale = codes "Stale"
refusal_words refusal.NoWorld = codes "NoWorld"
refusal_words (refusal.BoardsOver n) = codes "BoardsOver " ++ number n
refusal_words (refusal.StatsOver b n) = codes "StatsOver " ++ number b ++ codes " " ++ number n
refusal_words (refusal.BoardOver b n) = codes "BoardOver " ++ number b ++ codes " " ++ number n
