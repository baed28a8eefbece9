-- A board that has the latest writes shows the one of the replay.
use Rattle.std.proofs.Common.{◌≡◌, ◌∙◌, ◌<◌, ℕ, zero, suc, Bool, false, List, [], ◌∷◌, length, get_or, slice_get, Some, refl, ap, sym, subst}
use Rattle.std.proofs.lemmas.List.{length-map}
use Rattle.zed_types.specs.declared.written.Written.{Written}
use Rattle.zed_types.specs.declared.tile.Tile.{Tile}
use Rattle.zed_types.specs.declared.tile.TheConstants.{TILES}
use Rattle.zed_types.specs.declared.names.BoardId.{BoardId}
use Rattle.zed_types.specs.Names.{same_board}
use Rattle.zed_types.specs.Register.{value_or}
use Rattle.zed_types.proofs.StampOrder.{same_board-true}
use Rattle.zed_op.specs.declared.op.Edit.{Edit}
use Rattle.zed_op.specs.Set.{IsRising}
use Rattle.zed_op.specs.Sizes.{HaveSizes}
use Rattle.zed_edit.specs.declared.plain.Properties.{Properties}
use Rattle.zed_edit.specs.declared.plain.Board.{Board}
use Rattle.zed_edit.specs.declared.plain.Stat.{Stat}
use Rattle.zed_edit.specs.Board.{empty_tile}
use Rattle.zed_edit.specs.Replay.{replay}
use Rattle.zed_laws.proofs.RegularSteps.{ReadIsNormal}
use Rattle.zed_laws.specs.Fields.{board_removed, cell}
use Rattle.zed_laws.specs.Winners.{find_board}
use Rattle.zed_laws.proofs.BoardFields.{is_cell, is_removed, board-wins}
use Rattle.zed_cells.specs.Cells.{tiles_of}
use Rattle.zed_live.specs.Shown.{shown_properties}
use Rattle.zed_live.specs.Board.{ReplayedBoardIsShown}
use Rattle.zed_live.specs.BoardStats.{shown_stats}
use Rattle.zed_live.proofs.BoardStatsShown.{replayed_stats_are_shown}
use Rattle.zed_live.proofs.Lists.{found-passes}
use Rattle.zed_live.proofs.Shown.{same-each}
use Rattle.zed_live.proofs.PropertiesShown.{field-shown, is_whole, replayed_properties_are_shown}

-- the tile of a cell
tile-at : (cells : List (Written Tile)) (i : ℕ) (d : Tile) → get_or (tiles_of cells) i d ≡ value_or d (slice_get cells i)
tile-at [] i d = refl
tile-at (w ∷ cells) zero d = refl
tile-at (w ∷ cells) (suc i) d = tile-at cells i d

abbrev make : BoardId → List Tile → Properties → List Stat → Bool → Board
make i t p s r = record { id = i; tiles = t; properties = p; stats = s; removed = r }

module _ (normal : ReadIsNormal) (b : BoardId) (es : List Edit) (board : Board) (rises : IsRising es) (sizes : HaveSizes es) (there : find_board b (replay es).boards ≡ Some board) where
  pub tiles-shown : (cells : List (Written Tile)) → length cells ≡ TILES
      → ((i : ℕ) → i < TILES → value_or empty_tile (slice_get cells i) ≡ get_or board.tiles i empty_tile)
      → tiles_of cells ≡ board.tiles
  tiles-shown cells size was =
      let long = length-map cells (λ w. w.value) in
      same-each empty_tile (tiles_of cells) board.tiles (long ∙ size ∙ sym (is_whole normal b es board rises sizes there).tiles)
      (λ i l. tile-at cells i empty_tile ∙ was i (subst (λ n. i < n) (long ∙ size) l))

pub replayed_board_is_shown : ReadIsNormal → ReplayedBoardIsShown
replayed_board_is_shown normal b es x board rises fits sizes there was =
    let id : b ≡ board.id = sym (same_board-true board.id b (found-passes (λ y. same_board y.id b) (replay es).boards board there)) in
    let tiles = tiles-shown normal b es board rises sizes there x.cells was.whole
    (λ i l. field-shown normal b es board rises sizes there (cell i) empty_tile (slice_get x.cells i) (board-wins (cell i) (is_cell i l) b normal) (was.cells i l)) in
    let properties = replayed_properties_are_shown normal b es x.properties board rises sizes there was.properties in
    let stats = replayed_stats_are_shown normal b es board x.stats rises fits sizes there was.stats in
    let removed : value_or false x.removed ≡ board.removed = field-shown normal b es board rises sizes there board_removed false x.removed (board-wins board_removed is_removed b normal) was.removed in
    let path : make b (tiles_of x.cells) (shown_properties x.properties) (shown_stats x.stats) (value_or false x.removed) ≡ make board.id board.tiles board.properties board.stats board.removed =
    ap (λ i. make i (tiles_of x.cells) (shown_properties x.properties) (shown_stats x.stats) (value_or false x.removed)) id
    ∙ ap (λ t. make board.id t (shown_properties x.properties) (shown_stats x.stats) (value_or false x.removed)) tiles
    ∙ ap (λ p. make board.id board.tiles p (shown_stats x.stats) (value_or false x.removed)) properties
    ∙ ap (λ s. make board.id board.tiles board.properties s (value_or false x.removed)) stats
    ∙ ap (λ r. make board.id board.tiles board.properties board.stats r) removed in
    path
