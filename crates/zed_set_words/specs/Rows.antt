-- What words say: which words may stand at each place, and what stands behind each.
use Rattle.std.specs.Prelude.{ℕ, ◌+◌, List, [], ◌∷◌, codes, Option, Some, None, Result, Ok, Err}
use Rattle.zed_types.specs.declared.names.Name.{Name}
use Rattle.zed_types.specs.declared.header.FlagSlot.TheVariants.{First, Second, Third, Fourth, Fifth, Sixth, Seventh, Eighth, Ninth, Tenth}
use Rattle.zed_types.specs.declared.header.HeaderNumber.TheVariants.{Ammo, Gems, Health, Torches, TorchTicks, EnergizerTicks, Score, TimePassed, Hundredths}
use Rattle.zed_types.specs.declared.header.KeyColour.TheVariants.{Blue, Green, Cyan, Red, Purple, Yellow, White}
use Rattle.zed_types.specs.declared.property.BoardByte.TheVariants.{MaxShots, StartX, StartY}
use Rattle.zed_types.specs.declared.property.BoardFlag.TheVariants.{Dark, ReEnter}
use Rattle.zed_types.specs.declared.property.BoardText.TheVariants as board_text
use Rattle.zed_types.specs.declared.property.Side.TheVariants.{North, South, West, East}
use Rattle.zed_types.specs.declared.stat_field.StatByte.TheVariants.{X, Y, P1, P2, UnderElement, UnderColour}
use Rattle.zed_types.specs.declared.stat_field.StatNumber.TheVariants.{StepX, StepY, Cycle, Position}
use Rattle.zed_set_words.specs.declared.bad.BadWord.{BadWord}
use Rattle.zed_set_words.specs.declared.bad.Expected.{Expected}
use Rattle.zed_set_words.specs.declared.bad.Expected.TheVariants as expects
use Rattle.zed_set_words.specs.declared.world.WorldState.{WorldState}
use Rattle.zed_set_words.specs.declared.world.WorldState.TheVariants as world
use Rattle.zed_set_words.specs.declared.board.BoardState.{BoardState}
use Rattle.zed_set_words.specs.declared.board.BoardState.TheVariants as board
use Rattle.zed_set_words.specs.declared.stat.StatState.{StatState}
use Rattle.zed_set_words.specs.declared.stat.StatState.TheVariants as stat
use Rattle.zed_set_words.specs.declared.reading.State.{State}
use Rattle.zed_set_words.specs.declared.reading.State.TheVariants as state
use Rattle.zed_set_words.specs.declared.wishes.BoardPlace.{BoardPlace}
use Rattle.zed_set_words.specs.declared.wishes.StatPlace.{StatPlace}
use Rattle.zed_set_words.specs.declared.wishes.StatPlace.TheVariants as stat_place
use Rattle.zed_set_words.specs.declared.wishes.WorldWish.{WorldWish}
use Rattle.zed_set_words.specs.declared.wishes.WorldWish.TheVariants as world_wish
use Rattle.zed_set_words.specs.declared.wishes.BoardWish.{BoardWish}
use Rattle.zed_set_words.specs.declared.wishes.BoardWish.TheVariants as board_wish
use Rattle.zed_set_words.specs.declared.wishes.P3Wish.TheVariants as p3_wish
use Rattle.zed_set_words.specs.declared.wishes.StatWish.{StatWish}
use Rattle.zed_set_words.specs.declared.wishes.StatWish.TheVariants as stat_wish
use Rattle.zed_set_words.specs.declared.wishes.Wish.{Wish}
use Rattle.zed_set_words.specs.declared.wishes.Wish.TheVariants as wish
use Rattle.zed_set_words.specs.Readers.{named, row}
use Rattle.zed_set_words.specs.Strings.{string_of}
use Rattle.zed_set_words.specs.Values.{Word, board_of, byte_of, colour_of, element_of, flag_of, integer_of, name_of, other_of, short_of, text_of, unless_none, ◌>>=◌}

-- ---- registers of the world

-- the words that may stand there, and what stands behind each
abbrev pub world_rows : WorldState → List (Word × WorldState)
world_rows world.Register =
    row (codes "name") world.Name
    ∷ row (codes "world") world.WorldName
    ∷ row (codes "start-board") world.StartBoard
    ∷ row (codes "current") world.CurrentBoard
    ∷ row (codes "ammo") (world.Number Ammo)
    ∷ row (codes "gems") (world.Number Gems)
    ∷ row (codes "health") (world.Number Health)
    ∷ row (codes "torches") (world.Number Torches)
    ∷ row (codes "torch") world.TorchTicks
    ∷ row (codes "energizer") world.EnergizerTicks
    ∷ row (codes "score") (world.Number Score)
    ∷ row (codes "time") world.TimePassed
    ∷ row (codes "hundredths") (world.Number Hundredths)
    ∷ row (codes "key") world.Key
    ∷ row (codes "flag") world.Flag
    ∷ row (codes "saved") world.Saved
    ∷ []
world_rows world.TorchTicks = row (codes "ticks") (world.Number TorchTicks) ∷ []
world_rows world.EnergizerTicks = row (codes "ticks") (world.Number EnergizerTicks) ∷ []
world_rows world.TimePassed = row (codes "passed") (world.Number TimePassed) ∷ []
world_rows world.CurrentBoard = row (codes "board") world.StartBoard ∷ []
world_rows world.WorldName = row (codes "name") world.Name ∷ []
world_rows world.Key =
    row (codes "blue") (world.HasKey Blue)
    ∷ row (codes "green") (world.HasKey Green)
    ∷ row (codes "cyan") (world.HasKey Cyan)
    ∷ row (codes "red") (world.HasKey Red)
    ∷ row (codes "purple") (world.HasKey Purple)
    ∷ row (codes "yellow") (world.HasKey Yellow)
    ∷ row (codes "white") (world.HasKey White)
    ∷ []
world_rows world.Flag =
    row (codes "1") (world.FlagName First)
    ∷ row (codes "2") (world.FlagName Second)
    ∷ row (codes "3") (world.FlagName Third)
    ∷ row (codes "4") (world.FlagName Fourth)
    ∷ row (codes "5") (world.FlagName Fifth)
    ∷ row (codes "6") (world.FlagName Sixth)
    ∷ row (codes "7") (world.FlagName Seventh)
    ∷ row (codes "8") (world.FlagName Eighth)
    ∷ row (codes "9") (world.FlagName Ninth)
    ∷ row (codes "10") (world.FlagName Tenth)
    ∷ []
world_rows _ = []

-- the value that a word says there
abbrev pub world_said : WorldState → Word → Option WorldWish
world_said (world.Number f) word = integer_of word >>= λ n. Some (world_wish.Number f n)
world_said (world.HasKey k) word = flag_of word >>= λ has. Some (world_wish.Key k has)
world_said world.Saved word = flag_of word >>= λ is. Some (world_wish.Saved is)
world_said world.StartBoard word = board_of word >>= λ place. Some (world_wish.CurrentBoard place)
world_said world.Name word = string_of 20 word >>= λ name. Some (world_wish.Name name)
world_said (world.FlagName slot) word = string_of 20 word >>= λ name. Some (world_wish.Flag slot name)
world_said _ word = None

-- what may stand there
abbrev pub world_expected : WorldState → Expected
world_expected world.Register = expects.Register
world_expected world.TorchTicks = expects.TicksWord
world_expected world.EnergizerTicks = expects.TicksWord
world_expected world.TimePassed = expects.PassedWord
world_expected world.CurrentBoard = expects.BoardWord
world_expected world.WorldName = expects.NameWord
world_expected world.Key = expects.Key
world_expected world.Flag = expects.FlagNumber
world_expected (world.Number f) = expects.Number
world_expected (world.HasKey k) = expects.YesOrNo
world_expected world.Saved = expects.YesOrNo
world_expected world.StartBoard = expects.BoardPlace
world_expected world.Name = expects.ShortText
world_expected (world.FlagName slot) = expects.ShortText

-- ---- properties of a board

-- the words that may stand there, and what stands behind each
abbrev pub board_rows : BoardState → List (Word × BoardState)
board_rows board.Property =
    row (codes "name") board.Name
    ∷ row (codes "message") board.Message
    ∷ row (codes "dark") (board.Flag Dark)
    ∷ row (codes "re-enter") (board.Flag ReEnter)
    ∷ row (codes "max") board.MaxShots
    ∷ row (codes "start") board.Start
    ∷ row (codes "exit") board.Exit
    ∷ row (codes "time") board.TimeLimit
    ∷ row (codes "rank") board.Rank
    ∷ []
board_rows board.MaxShots = row (codes "shots") (board.Byte MaxShots) ∷ []
board_rows board.Start = row (codes "x") (board.Byte StartX) ∷ row (codes "y") (board.Byte StartY) ∷ []
board_rows board.Exit =
    row (codes "north") (board.Behind North)
    ∷ row (codes "south") (board.Behind South)
    ∷ row (codes "west") (board.Behind West)
    ∷ row (codes "east") (board.Behind East)
    ∷ []
board_rows board.TimeLimit = row (codes "limit") board.Ticks ∷ []
board_rows _ = []

-- what stands behind a number
abbrev pub board_behind : BoardState → Word → Option BoardState
board_behind board.Start word = byte_of word >>= λ x. Some (board.StartRow x)
board_behind _ word = None

-- the value that a word says there
abbrev pub board_said : BoardState → Word → Option BoardWish
board_said board.Name word = string_of 50 word >>= λ text. Some (board_wish.Text board_text.Name text)
board_said board.Message word = string_of 58 word >>= λ text. Some (board_wish.Text board_text.Message text)
board_said (board.Flag f) word = flag_of word >>= λ is. Some (board_wish.Flag f is)
board_said (board.Byte f) word = byte_of word >>= λ n. Some (board_wish.Byte f n)
board_said (board.StartRow x) word = byte_of word >>= λ y. Some (board_wish.Start x y)
board_said (board.Behind side) word = unless_none word (board_of word) >>= λ place. Some (board_wish.Exit side place)
board_said board.Ticks word = integer_of word >>= λ n. Some (board_wish.TimeLimit n)
board_said board.Rank word = short_of word >>= λ n. Some (board_wish.Rank n)
board_said _ word = None

-- what may stand there
abbrev pub board_expected : BoardState → Expected
board_expected board.Property = expects.Property
board_expected board.MaxShots = expects.ShotsWord
board_expected board.Start = expects.StartPart
board_expected board.Exit = expects.Side
board_expected board.TimeLimit = expects.LimitWord
board_expected board.Name = expects.NameText
board_expected board.Message = expects.MessageText
board_expected (board.Flag f) = expects.YesOrNo
board_expected (board.Byte f) = expects.Byte
board_expected (board.StartRow x) = expects.Byte
board_expected (board.Behind side) = expects.BoardOrNone
board_expected board.Ticks = expects.Number
board_expected board.Rank = expects.Rank

-- ---- fields of a stat

-- the words that may stand there, and what stands behind each
abbrev pub stat_rows : StatState → List (Word × StatState)
stat_rows stat.Field =
    row (codes "at") stat.At
    ∷ row (codes "x") (stat.Byte X)
    ∷ row (codes "y") (stat.Byte Y)
    ∷ row (codes "p1") (stat.Byte P1)
    ∷ row (codes "p2") (stat.Byte P2)
    ∷ row (codes "p3") stat.P3
    ∷ row (codes "leads-to") stat.LeadsTo
    ∷ row (codes "step") stat.Step
    ∷ row (codes "cycle") (stat.Number Cycle)
    ∷ row (codes "position") (stat.Number Position)
    ∷ row (codes "follower") stat.Follower
    ∷ row (codes "leader") stat.Leader
    ∷ row (codes "follows") stat.Leader
    ∷ row (codes "text") stat.Text
    ∷ row (codes "shares") stat.Shares
    ∷ row (codes "under") stat.Under
    ∷ []
stat_rows stat.P3 = row (codes "board") stat.P3Board ∷ []
stat_rows stat.LeadsTo = row (codes "board") stat.P3Board ∷ []
stat_rows stat.Step = row (codes "x") (stat.Number StepX) ∷ row (codes "y") (stat.Number StepY) ∷ []
stat_rows stat.Under = row (codes "element") stat.Element ∷ row (codes "colour") stat.Colour ∷ []
stat_rows _ = []

-- what stands behind a number
abbrev pub stat_behind : StatState → Word → Option StatState
stat_behind stat.At word = byte_of word >>= λ x. Some (stat.AtRow x)
stat_behind _ word = None

-- the value that a word says there, of this stat
abbrev pub stat_said : StatPlace → StatState → Word → Option StatWish
stat_said at stat.P3 word = byte_of word >>= λ n. Some (stat_wish.P3 (p3_wish.Byte n))
stat_said at (stat.AtRow x) word = byte_of word >>= λ y. Some (stat_wish.At x y)
stat_said at (stat.Byte f) word = byte_of word >>= λ n. Some (stat_wish.Byte f n)
stat_said at (stat.Number f) word = integer_of word >>= λ n. Some (stat_wish.Number f n)
stat_said at stat.P3Board word = board_of word >>= λ place. Some (stat_wish.P3 (p3_wish.Board place))
stat_said at stat.Follower word = unless_none word (other_of at word) >>= λ other. Some (stat_wish.Follower other)
stat_said at stat.Leader word = unless_none word (other_of at word) >>= λ other. Some (stat_wish.Leader other)
stat_said at stat.Text word = unless_none word (text_of word) >>= λ text. Some (stat_wish.Text text)
stat_said at stat.Shares word = other_of at word >>= λ other. Some (stat_wish.Shares other)
stat_said at stat.Element word = element_of word >>= λ n. Some (stat_wish.Byte UnderElement n)
stat_said at stat.Colour word = colour_of word >>= λ n. Some (stat_wish.Byte UnderColour n)
stat_said at _ word = None

-- what may stand there
abbrev pub stat_expected : StatState → Expected
stat_expected stat.Field = expects.Field
stat_expected stat.At = expects.Byte
stat_expected stat.P3 = expects.Target
stat_expected stat.LeadsTo = expects.BoardWord
stat_expected stat.Step = expects.AtPart
stat_expected stat.Under = expects.UnderPart
stat_expected (stat.AtRow x) = expects.Byte
stat_expected (stat.Byte f) = expects.Byte
stat_expected (stat.Number f) = expects.Number
stat_expected stat.P3Board = expects.BoardPlace
stat_expected stat.Follower = expects.StatOrNone
stat_expected stat.Leader = expects.StatOrNone
stat_expected stat.Text = expects.TextOrNone
stat_expected stat.Shares = expects.OtherStat
stat_expected stat.Element = expects.Element
stat_expected stat.Colour = expects.Colour

-- ---- all

-- the things that have registers
abbrev pub thing_rows : List (Word × State)
thing_rows =
    row (codes "world") (state.World world.Register)
    ∷ row (codes "header") (state.World world.Register)
    ∷ row (codes "board") state.Board
    ∷ row (codes "stat") state.Stat
    ∷ []

-- behind a word of a register
abbrev pub in_world : WorldState → Word → Option State
in_world s word = named (world_rows s) word >>= λ t. Some (state.World t)

-- what follows a word of a table, or else a number
abbrev pub or_behind : {A : Type 0} → (A → State) → Option A → Option A → Option State
or_behind f (Some s) o = Some (f s)
or_behind f None o = o >>= λ s. Some (f s)

-- behind a word of a property
abbrev pub on_board : BoardPlace → BoardState → Word → Option State
on_board b s word = or_behind (state.Property b) (named (board_rows s) word) (board_behind s word)

-- behind a word of a field
abbrev pub of_stat : StatPlace → StatState → Word → Option State
of_stat k s word = or_behind (state.Field k) (named (stat_rows s) word) (stat_behind s word)

-- a stat by its name, or else the number of its board
abbrev pub stat_or_board : Option Name → Word → Option State
stat_or_board (Some n) word = Some (state.Field (stat_place.Named (record { name = n })) stat.Field)
stat_or_board None word = short_of word >>= λ b. Some (state.StatNumber b)

-- what a word leads to, if more has to be said
abbrev pub next : State → Word → Option State
next state.Thing word = named thing_rows word
next (state.World s) word = in_world s word
next state.Board word = board_of word >>= λ place. Some (state.Property place board.Property)
next (state.Property b s) word = on_board b s word
next state.Stat word = stat_or_board (name_of word) word
next (state.StatNumber b) word = short_of word >>= λ n. Some (state.Field (stat_place.Numbered b n) stat.Field)
next (state.Field k s) word = of_stat k s word

-- what is wished, if a word says the value
abbrev pub said : State → Word → Option Wish
said (state.World s) word = world_said s word >>= λ w. Some (wish.World w)
said (state.Property b s) word = board_said s word >>= λ w. Some (wish.Board b w)
said (state.Field k s) word = stat_said k s word >>= λ w. Some (wish.Stat k w)
said _ word = None

-- what may be in the place of a word
abbrev pub expected : State → Expected
expected state.Thing = expects.Thing
expected (state.World s) = world_expected s
expected state.Board = expects.BoardPlace
expected (state.Property b s) = board_expected s
expected state.Stat = expects.StatPlace
expected (state.StatNumber b) = expects.StatNumber
expected (state.Field k s) = stat_expected s

-- behind so many words stands a wrong one, or none
abbrev pub bad : ℕ → Expected → Result Wish BadWord
bad at e = Err (record { at = at; expected = e })

-- a wish, if no word is left
abbrev pub ended : List Word → ℕ → Wish → Result Wish BadWord
ended [] at w = Ok w
ended (word ∷ words) at w = bad at expects.End

-- a word says the value, or leads to more; or it is wrong
abbrev pub goes_on : List Word → ℕ → State → Option Wish → Option State → (State → Result Wish BadWord) → Result Wish BadWord
goes_on words at s (Some w) t more = ended words (at + 1) w
goes_on words at s None (Some t) more = more t
goes_on words at s None None more = bad at (expected s)

-- what is wished by the words from here on, where so many were before them
unfoldable pub reading : List Word → ℕ → State → Result Wish BadWord
reading [] at s = bad at (expected s)
reading (word ∷ words) at s = goes_on words at s (said s word) (next s word) (reading words (at + 1))

-- what the words wish, or the first of them that may not be there
unfoldable pub wish_of : List Word → Result Wish BadWord
wish_of words = reading words 0 state.Thing
