-- A board takes each edit as if it had come at its place.
use Rattle.std.proofs.Common.{◌≡◌, ◌∙◌, ◌<◌, ℕ, zero, suc, Bool, true, false, cond, List, [], ◌∷◌, ◌++◌, length, map, get_or, slice_get, Option, Some, None, refl, ap, sym, subst, true≢false, arith}
use Rattle.std.specs.Option.{option_or, option_map, is_some}
use Rattle.std.proofs.lemmas.List.{length-map}
use Rattle.std.proofs.lemmas.Bool.{or_parts}
use Rattle.zed_types.specs.declared.stamp.Stamp.{Stamp}
use Rattle.zed_types.specs.declared.written.Written.{Written}
use Rattle.zed_types.specs.declared.tile.Tile.{Tile}
use Rattle.zed_types.specs.declared.tile.TheConstants.{TILES}
use Rattle.zed_types.specs.declared.tile.Rectangle.{Rectangle}
use Rattle.zed_types.specs.declared.names.BoardId.{BoardId}
use Rattle.zed_types.specs.declared.property.BoardSetting.{BoardSetting}
use Rattle.zed_types.specs.Board.{board_byte_index, board_flag_index, side_index, board_text_index}
use Rattle.zed_types.specs.Register.{keep_later, latest_of, written_at}
use Rattle.zed_types.specs.Table.{is_inside, place_at}
use Rattle.zed_types.proofs.StampOrder.{same_board-true}
use Rattle.zed_types.proofs.Facts.{none_is, length-map_from}
use Rattle.zed_op.specs.declared.op.Op.{Op}
use Rattle.zed_op.specs.declared.op.Op.TheVariants.{BoardRemove, SetBoard, SetCells, StatAdd, StatRemove, SetStat}
use Rattle.zed_op.specs.declared.op.Edit.{Edit}
use Rattle.zed_op.specs.Set.{IsRising}
use Rattle.zed_op.specs.Sizes.{IsOp}
use Rattle.zed_edit.specs.declared.plain.Board.{Board}
use Rattle.zed_edit.specs.Board.{empty_tile}
use Rattle.zed_laws.specs.Registers.{kept_after}
use Rattle.zed_laws.specs.Fields.{Field, board_byte, board_flag, time_limit, rank, exit, board_text, board_removed, cell}
use Rattle.zed_laws.specs.Winners.{of_board, find_board, made_boards, changes_board}
use Rattle.zed_cells.specs.Cells.{set_cells, writes_into, CellsHoldTheLatest}
use Rattle.zed_stats.specs.Arrivals.{FieldsHoldTheLatest}
use Rattle.zed_live.specs.declared.board.LiveBoard.{LiveBoard}
use Rattle.zed_live.specs.Shows.{latest_in}
use Rattle.zed_live.specs.Properties.{unwritten, write_property, PropertiesShow, sets_property}
use Rattle.zed_live.specs.Board.{board_after, stat_changed, is_of, BoardShows, touches, IsUntouched, MakesNewStats, BoardIsMade, BoardTakes, BoardPassesOthers}
use Rattle.zed_live.proofs.BoardStatsTake.{stats_pass, stats_add, stats_beside, stats_made}
use Rattle.zed_live.proofs.HeaderTakes.{put-late, unset}
use Rattle.zed_live.proofs.PropertiesTake.{properties_take_settings, properties_take_making, properties_pass_others, wrote}

-- ---- what an edit writes

-- an edit that isn't of a board doesn't change it
of-changes : (b : BoardId) (op : Op) → is_of b op ≡ false → changes_board b op ≡ false
of-changes b (StatAdd c fields) h = refl
of-changes b op h = h

pub untouched-parts : (b : BoardId) (e : Edit) → touches b e ≡ false
    → (find_board b (made_boards e.stamp e.op) ≡ None) × (changes_board b e.op ≡ false)
untouched-parts b e h =
    let p = or_parts (is_some (find_board b (made_boards e.stamp e.op))) (is_of b e.op) h in
    (none_is (find_board b (made_boards e.stamp e.op)) p.0, of-changes b e.op p.1)

module _ {V : Type 0} (f : Field Board V) (b : BoardId) where
  -- an edit that neither makes a board nor changes it writes none of its registers
  beside-writes : (e : Edit) → find_board b (made_boards e.stamp e.op) ≡ None → changes_board b e.op ≡ false
      → (of_board b f).writes e ≡ None
  beside-writes e none kept =
      ap (λ m. option_or (option_map f.value m) (cond (changes_board b e.op) (f.set e.op) None)) none
      ∙ ap (λ (c : Bool). cond c (f.set e.op) None) kept

  -- so none has a latest write
  pub none-latest : (es : List Edit) → IsUntouched b es → latest_in (of_board b f) es ≡ None
  none-latest [] a = refl
  none-latest (e ∷ es) a =
      let p = untouched-parts b e a.0 in
      rw (beside-writes e p.0 p.1) (none-latest es a.1)

  -- what an edit doesn't write stays
  passes : (e : Edit) (low high : List Edit) (kept : Option (Written V)) → IsRising (low ++ e ∷ high)
      → find_board b (made_boards e.stamp e.op) ≡ None → changes_board b e.op ≡ false → kept ≡ latest_in (of_board b f) (low ++ high)
      → kept ≡ latest_in (of_board b f) (low ++ e ∷ high)
  passes e low high kept rises none other was =
      put-late (of_board b f) e low high kept kept rises was (wrote (of_board b f) e kept kept None (beside-writes e none other) refl)

  made-writes : (e : Edit) (made : Board) → find_board b (made_boards e.stamp e.op) ≡ Some made
      → (of_board b f).writes e ≡ Some (f.value made)
  made-writes e made is = ap (λ m. option_or (option_map f.value m) (cond (changes_board b e.op) (f.set e.op) None)) is

  -- the making of a board that nothing else touches is the latest write
  pub written-first : (e : Edit) (made : Board) (low high : List Edit) → IsRising (low ++ e ∷ high)
      → find_board b (made_boards e.stamp e.op) ≡ Some made → IsUntouched b (low ++ high)
      → Some (written_at e.stamp (f.value made)) ≡ latest_in (of_board b f) (low ++ e ∷ high)
  written-first e made low high rises is none =
      put-late (of_board b f) e low high None (Some (written_at e.stamp (f.value made))) rises (sym (none-latest (low ++ high) none))
      (wrote (of_board b f) e None (Some (written_at e.stamp (f.value made))) (Some (f.value made)) (made-writes e made is) refl)

-- properties that no edit touches were never written
pub untouched-properties : (b : BoardId) (es : List Edit) → IsUntouched b es → PropertiesShow b es unwritten
untouched-properties b es none = record {
  three = refl;
  two_flags = refl;
  four = refl;
  two_texts = refl;
  bytes = λ f. unset 3 (board_byte_index f) ∙ sym (none-latest (board_byte f) b es none);
  flags = λ f. unset 2 (board_flag_index f) ∙ sym (none-latest (board_flag f) b es none);
  time_limit = sym (none-latest time_limit b es none);
  rank = sym (none-latest rank b es none);
  exits = λ f. unset 4 (side_index f) ∙ sym (none-latest (exit f) b es none);
  texts = λ f. unset 2 (board_text_index f) ∙ sym (none-latest (board_text f) b es none);
}

-- ---- cells

made-cell : (s : Stamp) (d : Tile) (tiles : List Tile) (i : ℕ) → i < length tiles
    → slice_get (map (written_at s) tiles) i ≡ Some (written_at s (get_or tiles i d))
made-cell s d [] i h = absurd (omega arith)
made-cell s d (t ∷ tiles) zero h = refl
made-cell s d (t ∷ tiles) (suc i) h = made-cell s d tiles i (omega arith)

-- a cell after a rectangle
module _ (latest : CellsHoldTheLatest) where
  pub drawn-cell : (s : Stamp) (r : Rectangle) (tile : Tile) (cells : List (Written Tile)) (i : ℕ) → i < length cells
      → slice_get (set_cells r (written_at s tile) cells) i
      ≡ kept_after s (slice_get cells i) (cond (is_inside r (place_at i)) (Some tile) None)
  drawn-cell s r tile cells i h = latest i ((r, written_at s tile) ∷ []) cells h ∙ go (is_inside r (place_at i)) refl (slice_get cells i)
    where
      go : (v : Bool) → is_inside r (place_at i) ≡ v → (o : Option (Written Tile))
          → latest_of o (writes_into i ((r, written_at s tile) ∷ [])) ≡ kept_after s o (cond v (Some tile) None)
      go true v o = rw v refl
      go false v o = rw v refl

-- ---- an edit of the board

abbrev edit_of : Stamp → Op → Edit
edit_of s op = record { stamp = s; op = op }

-- a setting, by whichever name of the board
set-properties : (b c : BoardId) (s : Stamp) (setting : BoardSetting) (low high : List Edit) (x : LiveBoard) → b ≡ c
    → IsRising (low ++ edit_of s (SetBoard c setting) ∷ high) → PropertiesShow b (low ++ high) x.properties
    → PropertiesShow b (low ++ edit_of s (SetBoard c setting) ∷ high) (write_property s setting x.properties)
set-properties b c s setting low high x same =
    let P : BoardId → Type 0 = λ d. IsRising (low ++ edit_of s (SetBoard d setting) ∷ high) → PropertiesShow b (low ++ high) x.properties → PropertiesShow b (low ++ edit_of s (SetBoard d setting) ∷ high) (write_property s setting x.properties) in
    subst P same (properties_take_settings b s setting low high x.properties)

module _ (latest : CellsHoldTheLatest) where
  op-takes : (b : BoardId) (s : Stamp) (op : Op) (low high : List Edit) (x : LiveBoard) → IsRising (low ++ edit_of s op ∷ high) → IsOp op
      → MakesNewStats (edit_of s op) (low ++ high) → is_of b op ≡ true → BoardShows b (low ++ high) x
      → BoardShows b (low ++ edit_of s op ∷ high) (board_after s op x)
  op-takes b s (BoardRemove c) low high x rises sizes new h was =
      let e = edit_of s (BoardRemove c) in
      record {
        whole = was.whole;
        properties = properties_pass_others b e low high x.properties rises refl refl was.properties;
        removed =
            put-late (of_board b board_removed) e low high x.removed (keep_later x.removed (written_at s true)) rises was.removed
            (wrote (of_board b board_removed) e x.removed (keep_later x.removed (written_at s true)) (Some true) (ap (λ (v : Bool). cond v (Some true) None) h) refl);
        cells = λ i l.
            put-late (of_board b (cell i)) e low high (slice_get x.cells i) (slice_get x.cells i) rises (was.cells i l)
            (wrote (of_board b (cell i)) e (slice_get x.cells i) (slice_get x.cells i) None (ap (λ (v : Bool). cond v None None) h) refl);
        stats = stats_pass b e low high x.stats rises (λ z. refl) (λ z. refl) was.stats;
      }
  op-takes b s (SetBoard c setting) low high x rises sizes new h was =
      let e = edit_of s (SetBoard c setting) in
      record {
        whole = was.whole;
        properties = set-properties b c s setting low high x (sym (same_board-true c b h)) rises was.properties;
        removed =
            put-late (of_board b board_removed) e low high x.removed x.removed rises was.removed
            (wrote (of_board b board_removed) e x.removed x.removed None (ap (λ (v : Bool). cond v None None) h) refl);
        cells = λ i l.
            put-late (of_board b (cell i)) e low high (slice_get x.cells i) (slice_get x.cells i) rises (was.cells i l)
            (wrote (of_board b (cell i)) e (slice_get x.cells i) (slice_get x.cells i) None (ap (λ (v : Bool). cond v None None) h) refl);
        stats = stats_pass b e low high x.stats rises (λ z. refl) (λ z. refl) was.stats;
      }
  op-takes b s (SetCells c r tile) low high x rises sizes new h was =
      let e = edit_of s (SetCells c r tile) in
      let new = set_cells r (written_at s tile) x.cells in
      record {
        whole = length-map_from _ 0 x.cells ∙ was.whole;
        properties = properties_pass_others b e low high x.properties rises refl refl was.properties;
        removed =
            put-late (of_board b board_removed) e low high x.removed x.removed rises was.removed
            (wrote (of_board b board_removed) e x.removed x.removed None (ap (λ (v : Bool). cond v None None) h) refl);
        cells = λ i l.
            put-late (of_board b (cell i)) e low high (slice_get x.cells i) (slice_get new i) rises (was.cells i l)
            (wrote (of_board b (cell i)) e (slice_get x.cells i) (slice_get new i) (cond (is_inside r (place_at i)) (Some tile) None)
            (ap (λ (v : Bool). cond v (cond (is_inside r (place_at i)) (Some tile) None) None) h)
            (drawn-cell latest s r tile x.cells i (subst (λ n. i < n) (sym was.whole) l)));
        stats = stats_pass b e low high x.stats rises (λ z. refl) (λ z. refl) was.stats;
      }
  op-takes b s (StatAdd c fields) low high x rises sizes new h was =
      let e = edit_of s (StatAdd c fields) in
      record {
        whole = was.whole;
        properties = properties_pass_others b e low high x.properties rises refl refl was.properties;
        removed = passes board_removed b e low high x.removed rises refl refl was.removed;
        cells = λ i l. passes (cell i) b e low high (slice_get x.cells i) rises refl refl (was.cells i l);
        stats = stats_add b c s fields low high x.stats rises h sizes.1 new was.stats;
      }
  op-takes b s _ low high x rises sizes new h was = absurd (true≢false (sym h))

  pub board_takes : BoardTakes
  board_takes b e low high x rises sizes new h was = op-takes b e.stamp e.op low high x rises sizes.1 new h was

-- ---- an edit of others

sets-none : (b : BoardId) (op : Op) → changes_board b op ≡ false → sets_property b op ≡ false
sets-none b (SetBoard c setting) h = h
sets-none b _ h = refl

-- an edit of a stat leaves what a board has beside its stats
abbrev AreSame : LiveBoard → LiveBoard → Type 0
AreSame x y = (x.properties ≡ y.properties) × (x.removed ≡ y.removed) × (x.cells ≡ y.cells)

beside-stats : (s : Stamp) (op : Op) (x : LiveBoard) → AreSame x (stat_changed s op x)
beside-stats s (StatRemove y) x = (refl, refl, refl)
beside-stats s (SetStat y w) x = (refl, refl, refl)
beside-stats s _ x = (refl, refl, refl)

pub board_passes_others : FieldsHoldTheLatest → BoardPassesOthers
board_passes_others latest b e low high x rises h was =
    let p = untouched-parts b e h in
    let y = stat_changed e.stamp e.op x in
    let same = beside-stats e.stamp e.op x in
    record {
      whole = subst (λ cs. length cs ≡ TILES) same.2 was.whole;
      properties = subst (PropertiesShow b (low ++ e ∷ high)) same.0 (properties_pass_others b e low high x.properties rises p.0 (sets-none b e.op p.1) was.properties);
      removed = sym same.1 ∙ passes board_removed b e low high x.removed rises p.0 p.1 was.removed;
      cells =
          λ i l. sym (ap (λ cs. slice_get cs i) same.2) ∙ passes (cell i) b e low high (slice_get x.cells i) rises p.0 p.1 (was.cells i l);
      stats = stats_beside latest b e low high x rises h was.stats;
    }

-- ---- the making

pub board_is_made : BoardIsMade
board_is_made b e made low high rises is whole none new = record {
  whole = length-map made.tiles (written_at e.stamp) ∙ whole.tiles;
  properties = properties_take_making b e made low high unwritten rises is whole (untouched-properties b (low ++ high) none);
  removed = written-first board_removed b e made low high rises is none;
  cells = λ i l. made-cell e.stamp empty_tile made.tiles i (subst (λ n. i < n) (sym whole.tiles) l) ∙ written-first (cell i) b e made low high rises is none;
  stats = stats_made b e made low high rises is whole none new;
}
