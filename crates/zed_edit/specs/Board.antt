-- A board, and what edits do to it.
use Rattle.std.specs.Prelude.{ℕ, pos, true, false, if◌then◌else◌, List, [], ◌∷◌, ◌++◌, replicate, slice_set, None}
use Rattle.zed_types.specs.declared.names.BoardId.{BoardId}
use Rattle.zed_types.specs.declared.names.StatId.{StatId}
use Rattle.zed_types.specs.declared.tile.Tile.{Tile}
use Rattle.zed_types.specs.declared.tile.Rectangle.{Rectangle}
use Rattle.zed_types.specs.Limits.{table_tiles}
use Rattle.zed_types.specs.Board.{board_byte_index, board_flag_index, side_index, board_text_index}
use Rattle.zed_types.specs.declared.property.BoardSetting.{BoardSetting}
use Rattle.zed_types.specs.declared.property.BoardSetting.TheVariants.{Byte, Flag, TimeLimit, Rank, Exit, Text}
use Rattle.zed_types.specs.Table.{is_inside, place_at, map_from}
use Rattle.zed_edit.specs.declared.plain.Properties.{Properties}
use Rattle.zed_edit.specs.declared.plain.Stat.{Stat}
use Rattle.zed_edit.specs.declared.plain.Board.{Board}
use Rattle.zed_edit.specs.Stat.{new_stat, player_fields}

-- the register of a setting is overwritten
abbrev pub set_property : BoardSetting → Properties → Properties
set_property (Byte f n) p = record p { bytes = slice_set p.bytes (board_byte_index f) n }
set_property (Flag f b) p = record p { flags = slice_set p.flags (board_flag_index f) b }
set_property (TimeLimit n) p = record p { time_limit = n }
set_property (Rank n) p = record p { rank = n }
set_property (Exit f b) p = record p { exits = slice_set p.exits (side_index f) b }
set_property (Text f s) p = record p { texts = slice_set p.texts (board_text_index f) s }

-- each cell of a rectangle is overwritten
abbrev pub set_cells : Rectangle → Tile → List Tile → List Tile
set_cells r tile tiles = map_from (λ i old. if is_inside r (place_at i) then tile else old) 0 tiles

-- a tile of nothing
abbrev pub empty_tile : Tile
empty_tile = record { element = 0; colour = 0 }

-- a normal wall in yellow
abbrev pub wall_tile : Tile
wall_tile = record { element = 22; colour = 0x0e }

-- the player's own tile
abbrev pub player_tile : Tile
player_tile = record { element = 4; colour = 0x1f }

-- the table of a new board: a border of normal walls, empty inside, the player in the middle
unfoldable pub new_table : List Tile
new_table =
    set_cells (record { left = 30; top = 12; right = 30; bottom = 12 }) player_tile
    (set_cells (record { left = 2; top = 2; right = 59; bottom = 24 }) empty_tile (replicate table_tiles wall_tile))

-- the registers of a new board: 255 shots, the start at column 30 and row 12, rank 0, no exit and no message
abbrev pub new_properties : List ℕ → Properties
new_properties name = record {
  bytes = 255 ∷ 30 ∷ 12 ∷ [];
  flags = replicate 2 false;
  time_limit = pos 0;
  rank = 0;
  exits = replicate 4 None;
  texts = name ∷ [] ∷ [];
}

-- a new board, which has its player alone
abbrev pub new_board : BoardId → StatId → List ℕ → Board
new_board id player name = record {
  id = id;
  tiles = new_table;
  properties = new_properties name;
  stats = new_stat player true player_fields ∷ [];
  removed = false;
}

-- a register of a board is overwritten
abbrev pub set_board_property : BoardSetting → Board → Board
set_board_property setting b = record b { properties = set_property setting b.properties }

-- cells of a board are overwritten
abbrev pub set_board_cells : Rectangle → Tile → Board → Board
set_board_cells r tile b = record b { tiles = set_cells r tile b.tiles }

-- one more stat, behind those that are there
abbrev pub add_stat : Stat → Board → Board
add_stat x b = record b { stats = b.stats ++ x ∷ [] }

-- the stats of a board, changed
abbrev pub change_stats : (List Stat → List Stat) → Board → Board
change_stats f b = record b { stats = f b.stats }

-- a removed board keeps its name and its registers
abbrev pub remove_board : Board → Board
remove_board b = record b { removed = true }
