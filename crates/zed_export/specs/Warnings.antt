-- What is odd about a world, though it can be saved.
use Rattle.std.specs.Prelude.{ℕ, ◌+◌, Bool, false, not, ◌&&◌, ◌==◌, if◌then◌else◌, List, [], ◌∷◌, ◌++◌, length, Option, Some, None}
use Rattle.std.specs.List.{list_any}
use Rattle.zed_types.specs.declared.tile.Tile.{Tile}
use Rattle.zed_types.specs.Table.{has_tile, tile_at}
use Rattle.zed_world.specs.Contents.{Contents}
use Rattle.zed_world.specs.declared.board.BoardData.{BoardData}
use Rattle.zed_world.specs.declared.stat.StatData.{StatData}
use Rattle.zed_export.specs.declared.warning.Warning.{Warning}
use Rattle.zed_export.specs.declared.warning.Warning.TheVariants.{PlayerTile, OffBoard, SamePlace}

-- whether there is a tile, and it is the player's
abbrev pub is_player : Option Tile → Bool
is_player None = false
is_player (Some tile) = tile.element == 4

-- whether a player tile stands at a place; outside the table nothing does
abbrev pub is_player_at : List Tile → ℕ → ℕ → Bool
is_player_at tiles x y = is_player (tile_at tiles x y)

-- whether one of these stats has a place
abbrev pub has_place : ℕ → ℕ → List StatData → Bool
has_place x y ss = list_any (λ s. s.x == x && s.y == y) ss

-- board n: its player stands on no player tile
abbrev pub player_warning : ℕ → BoardData → List StatData → List Warning
player_warning n b [] = []
player_warning n b (player ∷ others) = if is_player_at b.tiles player.x player.y then [] else PlayerTile n ∷ []

-- board n: a stat outside the table, or else at the place of one of these lower stats
abbrev pub place_warning : ℕ → List StatData → StatData → List Warning
place_warning n lower s =
    if not (has_tile s.x s.y) then OffBoard n (length lower) ∷ [] else
    if has_place s.x s.y lower then SamePlace n (length lower) ∷ [] else []

-- stat by stat, above these lower ones
abbrev pub place_warnings : ℕ → List StatData → List StatData → List Warning
place_warnings n lower [] = []
place_warnings n lower (s ∷ ss) = place_warning n lower s ++ place_warnings n (lower ++ s ∷ []) ss

-- board n: whether its player stands on a player tile, and then the places of its stats
abbrev pub board_warnings : ℕ → BoardData → List Warning
board_warnings n b = player_warning n b b.stats ++ place_warnings n [] b.stats

-- board by board, from board n on
abbrev pub boards_warnings : ℕ → List BoardData → List Warning
boards_warnings n [] = []
boards_warnings n (b ∷ bs) = board_warnings n b ++ boards_warnings (n + 1) bs

-- what is odd about a world, board by board
abbrev pub warnings_of : Contents → List Warning
warnings_of w = boards_warnings 0 w.boards
