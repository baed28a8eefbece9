-- A board that is added, and the world of a new edit file.
use Rattle.std.specs.Prelude.{ℕ, pos, false, List, [], ◌∷◌, codes, replicate, take}
use Rattle.zed_types.specs.declared.tile.Tile.{Tile}
use Rattle.zed_world.specs.declared.header.Header.{Header}
use Rattle.zed_world.specs.declared.board.Properties.{Properties}
use Rattle.zed_world.specs.declared.board.BoardData.{BoardData}
use Rattle.zed_world.specs.declared.stat.StatData.{StatData}
use Rattle.zed_edit.specs.Board.{new_table}
use Rattle.zed_world.specs.Contents.{Contents, standing}

-- nothing but health and a name, which is cut to its field
abbrev pub fresh_header : List ℕ → Header
fresh_header name = record {
  ammo = pos 0;
  gems = pos 0;
  keys = replicate 7 false;
  health = pos 100;
  current_board = 0;
  torches = pos 0;
  torch_ticks = pos 0;
  energizer_ticks = pos 0;
  score = pos 0;
  name = take 20 name;
  flags = replicate 10 [];
  time_passed = pos 0;
  hundredths = pos 0;
  saved = false;
}

-- the properties of a board that is added
abbrev pub fresh_properties : Properties
fresh_properties = record {
  max_shots = 255;
  dark = false;
  north = 0;
  south = 0;
  west = 0;
  east = 0;
  re_enter = false;
  message = [];
  start_x = 30;
  start_y = 12;
  time_limit = pos 0;
}

-- the player in the middle
abbrev pub fresh_player : StatData
fresh_player = standing 30 12

-- a board of this name and these tiles, with its player alone
abbrev pub board_of : List ℕ → List Tile → BoardData
board_of name tiles = record { name = name; tiles = tiles; properties = fresh_properties; stats = fresh_player ∷ [] }

-- a title of these tiles
abbrev pub title_of : List Tile → BoardData
title_of tiles = board_of (codes "Title") tiles

-- a world of one title board, which has the tiles of a board that is added
abbrev pub fresh_world : List ℕ → Contents
fresh_world name = record { header = fresh_header name; boards = title_of new_table ∷ [] }
