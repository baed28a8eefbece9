-- Every edit whose values have their sizes keeps a document whole.
use Rattle.std.proofs.Common.{◌≡◌, ◌+◌, ℕ, ℤ, Bool, true, false, not, cond, List, [], ◌∷◌, ◌++◌, length, Option, Some, None, Result, Ok, Err, refl, ap, ◌∙◌}
use Rattle.std.specs.List.{AllByRecursion}
use Rattle.std.proofs.lemmas.List.{length-set}
use Rattle.zed_types.specs.declared.stamp.Stamp.{Stamp}
use Rattle.zed_types.specs.declared.names.BoardId.{BoardId}
use Rattle.zed_types.specs.declared.names.StatId.{StatId}
use Rattle.zed_types.specs.declared.tile.Tile.{Tile}
use Rattle.zed_types.specs.declared.tile.Rectangle.{Rectangle}
use Rattle.zed_types.specs.declared.header.HeaderSetting.{HeaderSetting}
use Rattle.zed_types.specs.declared.header.HeaderSetting.TheVariants as header
use Rattle.zed_types.specs.declared.property.BoardSetting.{BoardSetting}
use Rattle.zed_types.specs.declared.property.BoardSetting.TheVariants as property
use Rattle.zed_types.specs.declared.stat_field.StatSetting.{StatSetting}
use Rattle.zed_types.specs.declared.stat_field.StatSetting.TheVariants as stat
use Rattle.zed_types.specs.Header.{header_number_index, key_index, flag_index}
use Rattle.zed_types.specs.Board.{board_byte_index, board_flag_index, side_index, board_text_index}
use Rattle.zed_types.specs.Stat.{stat_byte_index, stat_number_index}
use Rattle.zed_types.specs.Names.{board_of, stat_of, same_board, same_stat}
use Rattle.zed_types.specs.Table.{map_from, is_inside, place_at}
use Rattle.zed_types.proofs.Facts.{all_joined, length-map_from}
use Rattle.zed_world.specs.Contents.{Contents}
use Rattle.zed_world.specs.Reading.{world_at}
use Rattle.zed_world.specs.Normal.{HasNormalParts, IsNormalBoard}
use Rattle.zed_world.specs.declared.error.WorldError.{WorldError}
use Rattle.zed_world.specs.declared.board.BoardData.{BoardData}
use Rattle.zed_world.specs.declared.stat.StatData.{StatData}
use Rattle.zed_op.specs.declared.op.Op.{Op}
use Rattle.zed_op.specs.declared.op.Op.TheVariants.{Genesis, SetHeader, BoardAdd, BoardRemove, SetBoard, SetCells, StatAdd, StatRemove, SetStat, TextAdd, TextInsert, TextDelete}
use Rattle.zed_op.specs.declared.op.Edit.{Edit}
use Rattle.zed_op.specs.Sizes.{IsOp, HaveSizes}
use Rattle.zed_edit.specs.declared.plain.Header.{Header}
use Rattle.zed_edit.specs.declared.plain.Board.{Board}
use Rattle.zed_edit.specs.declared.plain.Stat.{Stat}
use Rattle.zed_edit.specs.declared.plain.Plain.{Plain}
use Rattle.zed_edit.specs.Header.{set_header}
use Rattle.zed_edit.specs.Board.{set_board_property, set_board_cells, new_board, add_stat, change_stats, remove_board}
use Rattle.zed_edit.specs.Stat.{with_number, set_stat, new_stat, remove_stat}
use Rattle.zed_edit.specs.Genesis.{opened_stat, opened_boards_from, opened_boards, programs_before}
use Rattle.zed_edit.specs.Document.{empty_document, change_such}
use Rattle.zed_edit.specs.Replay.{can, step, do_op, do_edit, hold, open_world, replay_on}
use Rattle.zed_laws.proofs.AllBoards.{each_changed, all_mapped}
use Rattle.zed_laws.proofs.RegularSteps.{ReadIsNormal, length_new_table}
use Rattle.zed_laws.specs.Whole.{IsWholeHeader, IsWholeStat, IsWholeBoard, IsWhole, ReplayIsWhole}

-- ---- the header

header_whole : (setting : HeaderSetting) (h : Header) → IsWholeHeader h → IsWholeHeader (set_header setting h)
header_whole (header.Number f n) h r =
    record { numbers = length-set h.numbers (header_number_index f) n ∙ r.numbers; keys = r.keys; flags = r.flags }
header_whole (header.Key k b) h r = record { numbers = r.numbers; keys = length-set h.keys (key_index k) b ∙ r.keys; flags = r.flags }
header_whole (header.Saved b) h r = record { numbers = r.numbers; keys = r.keys; flags = r.flags }
header_whole (header.CurrentBoard b) h r = record { numbers = r.numbers; keys = r.keys; flags = r.flags }
header_whole (header.WorldName s) h r = record { numbers = r.numbers; keys = r.keys; flags = r.flags }
header_whole (header.Flag k s) h r = record { numbers = r.numbers; keys = r.keys; flags = length-set h.flags (flag_index k) s ∙ r.flags }

-- ---- boards

property_whole : (setting : BoardSetting) (b : Board) → IsWholeBoard b → IsWholeBoard (set_board_property setting b)
property_whole (property.Byte f n) b r = record { tiles = r.tiles; bytes = length-set b.properties.bytes (board_byte_index f) n ∙ r.bytes; flags = r.flags; exits = r.exits; texts = r.texts; stats = r.stats }
property_whole (property.Flag f v) b r = record { tiles = r.tiles; bytes = r.bytes; flags = length-set b.properties.flags (board_flag_index f) v ∙ r.flags; exits = r.exits; texts = r.texts; stats = r.stats }
property_whole (property.TimeLimit n) b r =
    record { tiles = r.tiles; bytes = r.bytes; flags = r.flags; exits = r.exits; texts = r.texts; stats = r.stats }
property_whole (property.Rank n) b r =
    record { tiles = r.tiles; bytes = r.bytes; flags = r.flags; exits = r.exits; texts = r.texts; stats = r.stats }
property_whole (property.Exit f o) b r = record { tiles = r.tiles; bytes = r.bytes; flags = r.flags; exits = length-set b.properties.exits (side_index f) o ∙ r.exits; texts = r.texts; stats = r.stats }
property_whole (property.Text f s) b r = record { tiles = r.tiles; bytes = r.bytes; flags = r.flags; exits = r.exits; texts = length-set b.properties.texts (board_text_index f) s ∙ r.texts; stats = r.stats }

cells_whole : (cells : Rectangle) (tile : Tile) (b : Board) → IsWholeBoard b → IsWholeBoard (set_board_cells cells tile b)
cells_whole cells tile b r = record { tiles = length-map_from (λ i old. cond (is_inside cells (place_at i)) tile old) 0 b.tiles ∙ r.tiles; bytes = r.bytes; flags = r.flags; exits = r.exits; texts = r.texts; stats = r.stats }

removed_whole : (b : Board) → IsWholeBoard b → IsWholeBoard (remove_board b)
removed_whole b r = record { tiles = r.tiles; bytes = r.bytes; flags = r.flags; exits = r.exits; texts = r.texts; stats = r.stats }

with_stats : (b : Board) (ss : List Stat) → AllByRecursion IsWholeStat ss → IsWholeBoard b → IsWholeBoard (record b { stats = ss })
with_stats b ss h r = record { tiles = r.tiles; bytes = r.bytes; flags = r.flags; exits = r.exits; texts = r.texts; stats = h }

new_board_whole : (id : BoardId) (player : StatId) (name : List ℕ) → IsWholeBoard (new_board id player name)
new_board_whole id player name = record { tiles = length_new_table; bytes = refl; flags = refl; exits = refl; texts = refl; stats = (record { bytes = refl; numbers = refl; stays = λ k. refl }, tt) }

-- ---- stats

number_whole : (o : Option ℕ) (n : ℤ) (s : Stat) → IsWholeStat s → IsWholeStat (with_number o n s)
number_whole (Some i) n s r = record { bytes = r.bytes; numbers = length-set s.fields.numbers i n ∙ r.numbers; stays = r.stays }
number_whole None n s r = record { bytes = r.bytes; numbers = r.numbers; stays = r.stays }

stat_whole : (setting : StatSetting) (s : Stat) → IsWholeStat s → IsWholeStat (set_stat setting s)
stat_whole (stat.Byte f n) s r =
    record { bytes = length-set s.fields.bytes (stat_byte_index f) n ∙ r.bytes; numbers = r.numbers; stays = r.stays }
stat_whole (stat.Number f n) s r = number_whole (stat_number_index f) n s r
stat_whole (stat.P3 p) s r = record { bytes = r.bytes; numbers = r.numbers; stays = r.stays }
stat_whole (stat.Follower o) s r = record { bytes = r.bytes; numbers = r.numbers; stays = r.stays }
stat_whole (stat.Leader o) s r = record { bytes = r.bytes; numbers = r.numbers; stays = r.stays }
stat_whole (stat.Text o) s r = record { bytes = r.bytes; numbers = r.numbers; stays = r.stays }

gone_whole : (s : Stat) → IsWholeStat s → IsWholeStat (remove_stat s)
gone_whole s r = record { bytes = r.bytes; numbers = r.numbers; stays = λ k. ap not k }

changed_whole : (x : StatId) (change : Stat → Stat) → ((s : Stat) → IsWholeStat s → IsWholeStat (change s)) → (b : Board) → IsWholeBoard b
    → IsWholeBoard (change_stats (change_such (λ s. same_stat s.id x) change) b)
changed_whole x change keeps b r = with_stats b (change_such (λ s. same_stat s.id x) change b.stats) (each_changed IsWholeStat (λ s. same_stat s.id x) change b.stats (λ s same h. keeps s h) r.stats) r

-- ---- the world of a file

opened_stats_whole : (s : Stamp) (m t : ℕ) (b : BoardData) (j : ℕ) (xs : List StatData)
    → AllByRecursion IsWholeStat (map_from (opened_stat s m t b) j xs)
opened_stats_whole s m t b j [] = tt
opened_stats_whole s m t b j (x ∷ xs) = (record { bytes = refl; numbers = refl; stays = λ k. refl }, opened_stats_whole s m t b (j + 1) xs)

opened_whole : (s : Stamp) (n m t boards : ℕ) (bs : List BoardData) → AllByRecursion (IsNormalBoard boards) bs
    → AllByRecursion IsWholeBoard (opened_boards_from s n m t bs)
opened_whole s n m t boards [] h = tt
opened_whole s n m t boards (b ∷ bs) h = (
  record { tiles = h.0.tiles; bytes = refl; flags = refl; exits = refl; texts = refl; stats = opened_stats_whole s m t b 0 b.stats },
  opened_whole s (n + 1) (m + length b.stats) (t + programs_before (length b.stats) b.stats) boards bs h.1,
)

world_whole : (s : Stamp) (r : Result Contents WorldError) (p : Plain) → ((w : Contents) → r ≡ Ok w → HasNormalParts w) → IsWhole p
    → IsWhole (open_world s r p)
world_whole s (Err e) p normal h = h
world_whole s (Ok w) p normal h =
    let n = normal w refl in
    record {
      header = record { numbers = refl; keys = n.header.keys; flags = n.header.flags };
      boards =
          all_joined IsWholeBoard p.boards (opened_boards s w.boards) h.boards (opened_whole s 0 0 0 (length w.boards) w.boards n.boards);
    }

-- ---- every edit

op_whole : ReadIsNormal → (s : Stamp) (op : Op) (p : Plain) → IsOp op → IsWhole p → IsWhole (do_op s op p)
op_whole law s (Genesis bytes) p i r = world_whole s (world_at bytes) p (law bytes) r
op_whole law s (SetHeader setting) p i r = record { header = header_whole setting p.header r.header; boards = r.boards }
op_whole law s (BoardAdd name) p i r = record { header = r.header; boards = all_joined IsWholeBoard p.boards (new_board (board_of s 0) (stat_of s 0) name ∷ []) r.boards (new_board_whole (board_of s 0) (stat_of s 0) name, tt) }
op_whole law s (BoardRemove b) p i r = record { header = r.header; boards = each_changed IsWholeBoard (λ x. same_board x.id b) remove_board p.boards (λ x same h. removed_whole x h) r.boards }
op_whole law s (SetBoard b setting) p i r = record { header = r.header; boards = each_changed IsWholeBoard (λ x. same_board x.id b) (set_board_property setting) p.boards (λ x same h. property_whole setting x h) r.boards }
op_whole law s (SetCells b cells tile) p i r = record { header = r.header; boards = each_changed IsWholeBoard (λ x. same_board x.id b) (set_board_cells cells tile) p.boards (λ x same h. cells_whole cells tile x h) r.boards }
op_whole law s (StatAdd b fields) p i r =
    let new = new_stat (stat_of s 0) false fields in
    record { header = r.header; boards = each_changed IsWholeBoard (λ x. same_board x.id b) (add_stat new) p.boards (λ x same h. with_stats x (x.stats ++ new ∷ []) (all_joined IsWholeStat x.stats (new ∷ []) h.stats (record { bytes = i.1.all_bytes; numbers = i.1.all_numbers; stays = λ k. refl }, tt)) h) r.boards }
op_whole law s (StatRemove x) p i r = record { header = r.header; boards = all_mapped IsWholeBoard (change_stats (change_such (λ y. same_stat y.id x) remove_stat)) p.boards (changed_whole x remove_stat gone_whole) r.boards }
op_whole law s (SetStat x setting) p i r = record { header = r.header; boards = all_mapped IsWholeBoard (change_stats (change_such (λ y. same_stat y.id x) (set_stat setting))) p.boards (changed_whole x (set_stat setting) (stat_whole setting)) r.boards }
op_whole law s TextAdd p i r = record { header = r.header; boards = r.boards }
op_whole law s (TextInsert t after bytes) p i r = record { header = r.header; boards = r.boards }
op_whole law s (TextDelete t range) p i r = record { header = r.header; boards = r.boards }

pub step_whole : ReadIsNormal → (p : Plain) (e : Edit) → IsOp e.op → IsWhole p → IsWhole (step p e)
step_whole law p e i r = either (can p e)
  where
    either : (t : Bool) → IsWhole (cond t (do_edit p e) (hold p e))
    either true = op_whole law e.stamp e.op p i r
    either false = record { header = r.header; boards = r.boards }

replay_on_whole : ReadIsNormal → (p : Plain) (es : List Edit) → HaveSizes es → IsWhole p → IsWhole (replay_on p es)
replay_on_whole law p [] i r = r
replay_on_whole law p (e ∷ es) i r = replay_on_whole law (step p e) es i.1 (step_whole law p e i.0.1 r)

pub empty_whole : IsWhole empty_document
empty_whole = record { header = record { numbers = refl; keys = refl; flags = refl }; boards = tt }

pub replay_whole : ReadIsNormal → ReplayIsWhole
replay_whole law es i = replay_on_whole law empty_document es i empty_whole
