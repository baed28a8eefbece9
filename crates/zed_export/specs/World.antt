-- The world that a document exports: what isn't removed, with references as numbers.
use Rattle.std.specs.Prelude.{ℕ, suc, Bool, false, if◌then◌else◌, List, [], ◌∷◌, ◌++◌, length, map, position, unwrap_or, Option, Some, None, option_map, option_and_then}
use Rattle.zed_types.specs.declared.names.BoardId.{BoardId}
use Rattle.zed_types.specs.declared.names.TextId.{TextId}
use Rattle.zed_types.specs.declared.stat_field.ThirdParameter.{ThirdParameter}
use Rattle.zed_types.specs.declared.stat_field.ThirdParameter.TheVariants as third
use Rattle.zed_types.specs.declared.header.HeaderNumber.TheVariants.{Ammo, Gems, Health, Torches, TorchTicks, EnergizerTicks, Score, TimePassed, Hundredths}
use Rattle.zed_types.specs.declared.property.Side.TheVariants.{North, South, West, East}
use Rattle.zed_types.specs.declared.property.BoardByte.TheVariants.{MaxShots, StartX, StartY}
use Rattle.zed_types.specs.declared.property.BoardFlag.TheVariants.{Dark, ReEnter}
use Rattle.zed_types.specs.declared.property.BoardText.TheVariants.{Name, Message}
use Rattle.zed_types.specs.declared.stat_field.StatByte.TheVariants.{X, Y, P1, P2, UnderElement, UnderColour}
use Rattle.zed_types.specs.declared.stat_field.StatNumber.TheVariants.{StepX, StepY, Cycle, Position}
use Rattle.zed_types.specs.Names.{same_text}
use Rattle.zed_world.specs.Contents.{Contents}
use Rattle.zed_world.specs.Fields.{board_number as number_of_world}
use Rattle.zed_world.specs.Offsets.{is_passage_at}
use Rattle.zed_world.specs.declared.header.Header as world_header
use Rattle.zed_world.specs.declared.board.Properties as world_properties
use Rattle.zed_world.specs.declared.board.BoardData.{BoardData}
use Rattle.zed_world.specs.declared.stat.StatData.{StatData}
use Rattle.zed_world.specs.declared.stat.Code.{Code}
use Rattle.zed_world.specs.declared.stat.Code.TheVariants as code
use Rattle.zed_edit.specs.declared.plain.Properties.{Properties}
use Rattle.zed_edit.specs.declared.plain.Board.{Board}
use Rattle.zed_edit.specs.declared.plain.Stat.{Stat}
use Rattle.zed_edit.specs.declared.plain.Plain.{Plain}
use Rattle.zed_edit.specs.Document.{text}
use Rattle.zed_edit.specs.Numbers.{alive_boards, board_number, alive_stats, stat_number as number_of_stat}
use Rattle.zed_laws.specs.Registers.{header_number}
use Rattle.zed_view.specs.View.{board_byte, board_flag, exit, board_text, stat_byte, stat_number}

-- the number of a board, or 0 where it is removed
abbrev pub number_or_0 : Plain → BoardId → ℕ
number_or_0 p b = unwrap_or (board_number p b) 0

-- an exit that is none or leads to a removed board is 0
abbrev pub exit_number : Plain → Option BoardId → ℕ
exit_number p None = 0
exit_number p (Some b) = number_or_0 p b

-- the header of the world, its current board by number
abbrev pub exported_header : Plain → world_header.Header
exported_header p = record {
  ammo = header_number Ammo p.header;
  gems = header_number Gems p.header;
  keys = p.header.keys;
  health = header_number Health p.header;
  current_board = number_or_0 p p.header.current_board;
  torches = header_number Torches p.header;
  torch_ticks = header_number TorchTicks p.header;
  energizer_ticks = header_number EnergizerTicks p.header;
  score = header_number Score p.header;
  name = p.header.world_name;
  flags = p.header.flags;
  time_passed = header_number TimePassed p.header;
  hundredths = header_number Hundredths p.header;
  saved = p.header.saved;
}

-- the properties of a board, its exits by number
abbrev pub exported_properties : Plain → Properties → world_properties.Properties
exported_properties p q = record {
  max_shots = board_byte MaxShots q;
  dark = board_flag Dark q;
  north = exit_number p (exit North q);
  south = exit_number p (exit South q);
  west = exit_number p (exit West q);
  east = exit_number p (exit East q);
  re_enter = board_flag ReEnter q;
  message = board_text Message q;
  start_x = board_byte StartX q;
  start_y = board_byte StartY q;
  time_limit = q.time_limit;
}

-- a board as a third parameter is its number; a byte on a passage stands if it is the number of a board of this world
abbrev pub parameter : Plain → Bool → ThirdParameter → ℕ
parameter p on_passage (third.Board b) = number_or_0 p b
parameter p on_passage (third.Byte n) = if on_passage then number_of_world (length (alive_boards p)) n else n

-- ---- programs

-- whether there is a text, and it is t
abbrev pub is_of : TextId → Option TextId → Bool
is_of t None = false
is_of t (Some u) = same_text u t

-- the lowest stat past the player that uses a text, of stats with these texts
abbrev pub user_of : TextId → List (Option TextId) → Option ℕ
user_of t [] = None
user_of t (player ∷ others) = option_map suc (position (is_of t) others)

-- no bytes are no program; where a lower stat has them, that one owns them
abbrev pub code_with : Option ℕ → List ℕ → Code
code_with user [] = code.None
code_with None (b ∷ bs) = code.Own (b ∷ bs)
code_with (Some n) (b ∷ bs) = code.Same n

-- the program of a stat above stats with these texts
abbrev pub exported_code : Plain → List (Option TextId) → Option TextId → Code
exported_code p lower None = code.None
exported_code p lower (Some t) = code_with (user_of t lower) (text p t)

-- ---- stats and boards

-- a stat with this program
abbrev pub stat_with : Plain → Board → Stat → Code → StatData
stat_with p b s program = record {
  x = stat_byte X s;
  y = stat_byte Y s;
  step_x = stat_number StepX s;
  step_y = stat_number StepY s;
  cycle = stat_number Cycle s;
  p1 = stat_byte P1 s;
  p2 = stat_byte P2 s;
  p3 = parameter p (is_passage_at b.tiles (stat_byte X s) (stat_byte Y s)) s.fields.p3;
  follower = option_and_then (number_of_stat b) s.follower;
  leader = option_and_then (number_of_stat b) s.leader;
  under = record { element = stat_byte UnderElement s; colour = stat_byte UnderColour s };
  position = stat_number Position s;
  code = program;
}

-- a stat above stats with these texts
abbrev pub exported_stat : Plain → Board → List (Option TextId) → Stat → StatData
exported_stat p b lower s = stat_with p b s (exported_code p lower s.fields.text)

-- stats of a board, above stats with these texts
abbrev pub exported_above : Plain → Board → List (Option TextId) → List Stat → List StatData
exported_above p b lower [] = []
exported_above p b lower (s ∷ ss) = exported_stat p b lower s ∷ exported_above p b (lower ++ s.fields.text ∷ []) ss

-- a board with its stats that aren't removed
abbrev pub exported_board : Plain → Board → BoardData
exported_board p b = record {
  name = board_text Name b.properties;
  tiles = b.tiles;
  properties = exported_properties p b.properties;
  stats = exported_above p b [] (alive_stats b);
}

-- the boards that aren't removed, by number
abbrev pub exported_boards : Plain → List BoardData
exported_boards p = map (exported_board p) (alive_boards p)

-- the world that a document exports: its header and its boards
abbrev pub world_of : Plain → Contents
world_of p = record { header = exported_header p; boards = exported_boards p }
