-- Which field stands at which offset: of a file, of the properties of a board behind its runs, of a stat.
use Rattle.std.specs.Prelude.{ℕ, zero, suc, ◌+◌, ◌*◌, Bool, false, ◌==◌, if◌then◌else◌, List, [], ◌∷◌, ◌++◌, map, slice_index, Option, Some, None}
use Rattle.zed_types.specs.declared.tile.Tile.{Tile}
use Rattle.zed_types.specs.Table.{tile_at}
use Rattle.zed_world.specs.declared.header.Header.{Header}
use Rattle.zed_world.specs.declared.stat.Code.{Code}
use Rattle.zed_world.specs.declared.stat.StatData.{StatData}
use Rattle.zed_world.specs.declared.board.Properties.{Properties}
use Rattle.zed_world.specs.Fields.{integer_at, flag_at, string_at, board_number, board_integer, stat_integer}

-- seven keys, a byte each
abbrev pub keys_at : List ℕ → List Bool
keys_at bytes = map (flag_at bytes) (8 ∷ 9 ∷ 10 ∷ 11 ∷ 12 ∷ 13 ∷ 14 ∷ [])

-- so many strings of 20 bytes, one after the other from 50 on
abbrev pub flags_at : ℕ → List ℕ → List (List ℕ)
flags_at zero bytes = []
flags_at (suc n) bytes = flags_at n bytes ++ string_at 20 bytes (50 + 21 * n) ∷ []

-- the header of a world of so many boards
unfoldable pub header_at : ℕ → List ℕ → Header
header_at boards bytes = record {
  ammo = integer_at bytes 4;
  gems = integer_at bytes 6;
  keys = keys_at bytes;
  health = integer_at bytes 15;
  current_board = board_integer boards (integer_at bytes 17);
  torches = integer_at bytes 19;
  torch_ticks = integer_at bytes 21;
  energizer_ticks = integer_at bytes 23;
  score = integer_at bytes 27;
  name = string_at 20 bytes 29;
  flags = flags_at 10 bytes;
  time_passed = integer_at bytes 260;
  hundredths = integer_at bytes 262;
  saved = flag_at bytes 264;
}

-- the properties of a board, in a world of so many boards
unfoldable pub properties_at : ℕ → List ℕ → Properties
properties_at boards bytes = record {
  max_shots = slice_index bytes 0;
  dark = flag_at bytes 1;
  north = board_number boards (slice_index bytes 2);
  south = board_number boards (slice_index bytes 3);
  west = board_number boards (slice_index bytes 4);
  east = board_number boards (slice_index bytes 5);
  re_enter = flag_at bytes 6;
  message = string_at 58 bytes 7;
  start_x = slice_index bytes 66;
  start_y = slice_index bytes 67;
  time_limit = integer_at bytes 68;
}

-- whether a tile is a passage; outside the table there is none
abbrev pub is_passage : Option Tile → Bool
is_passage None = false
is_passage (Some tile) = tile.element == 11

-- whether a passage stands at this place of a table
unfoldable pub is_passage_at : List Tile → ℕ → ℕ → Bool
is_passage_at tiles x y = is_passage (tile_at tiles x y)

-- a stat with this program, on a board of so many stats
unfoldable pub stat_with : ℕ → ℕ → List Tile → List ℕ → Code → StatData
stat_with boards stats tiles bytes program = record {
  x = slice_index bytes 0;
  y = slice_index bytes 1;
  step_x = integer_at bytes 2;
  step_y = integer_at bytes 4;
  cycle = integer_at bytes 6;
  p1 = slice_index bytes 8;
  p2 = slice_index bytes 9;
  p3 = if is_passage_at tiles (slice_index bytes 0) (slice_index bytes 1) then board_number boards (slice_index bytes 10) else slice_index bytes 10;
  follower = stat_integer stats (integer_at bytes 11);
  leader = stat_integer stats (integer_at bytes 13);
  under = record { element = slice_index bytes 15; colour = slice_index bytes 16 };
  position = integer_at bytes 21;
  code = program;
}
