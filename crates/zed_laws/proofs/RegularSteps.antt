-- Every edit that fits keeps a document regular.
use Rattle.std.proofs.Common.{◌≡◌, ◌≤◌, ◌+◌, ℕ, ℤ, Bool, true, false, not, cond, List, [], ◌∷◌, ◌++◌, length, set, refl, ap, ◌∙◌, arith, lit≤, Option, Some, None, Result, Ok, Err}
use Rattle.std.specs.List.{AllByRecursion}
use Rattle.std.proofs.lemmas.List.{length-set}
use Rattle.std.proofs.lemmas.Bool.{leb-true}
use Rattle.zed_types.specs.declared.stamp.Stamp.{Stamp}
use Rattle.zed_types.specs.declared.names.BoardId.{BoardId}
use Rattle.zed_types.specs.declared.names.StatId.{StatId}
use Rattle.zed_types.specs.declared.tile.Tile.{Tile}
use Rattle.zed_types.specs.declared.tile.Rectangle.{Rectangle}
use Rattle.zed_types.specs.declared.tile.TheConstants.{TILES}
use Rattle.zed_types.specs.declared.header.HeaderSetting.{HeaderSetting}
use Rattle.zed_types.specs.declared.header.HeaderSetting.TheVariants as header
use Rattle.zed_types.specs.declared.property.BoardText.{BoardText}
use Rattle.zed_types.specs.declared.property.BoardText.TheVariants.{Name, Message}
use Rattle.zed_types.specs.declared.property.BoardSetting.{BoardSetting}
use Rattle.zed_types.specs.declared.property.BoardSetting.TheVariants as property
use Rattle.zed_types.specs.declared.stat_field.StatSetting.{StatSetting}
use Rattle.zed_types.specs.declared.stat_field.StatSetting.TheVariants as stat
use Rattle.zed_types.specs.Names.{board_of, stat_of, same_board, same_stat}
use Rattle.zed_types.specs.Table.{map_from, is_inside, place_at}
use Rattle.zed_world.specs.Contents.{Contents}
use Rattle.zed_world.specs.declared.error.WorldError.{WorldError}
use Rattle.zed_world.specs.declared.board.BoardData.{BoardData}
use Rattle.zed_world.specs.declared.stat.StatData.{StatData}
use Rattle.zed_world.specs.Reading.{world_at}
use Rattle.zed_world.specs.Normal.{HasNormalParts, IsNormalBoard}
use Rattle.zed_op.specs.declared.cause.Cause.TheVariants as cause
use Rattle.zed_op.specs.declared.op.Op.{Op}
use Rattle.zed_op.specs.declared.op.Op.TheVariants.{Genesis, SetHeader, BoardAdd, BoardRemove, SetBoard, SetCells, StatAdd, StatRemove, SetStat, TextAdd, TextInsert, TextDelete}
use Rattle.zed_op.specs.declared.op.Edit.{Edit}
use Rattle.zed_edit.specs.declared.plain.Header.{Header}
use Rattle.zed_edit.specs.declared.plain.Properties.{Properties}
use Rattle.zed_edit.specs.declared.plain.Board.{Board}
use Rattle.zed_edit.specs.declared.plain.Stat.{Stat}
use Rattle.zed_edit.specs.declared.plain.Plain.{Plain}
use Rattle.zed_types.specs.Names.{title}
use Rattle.zed_types.specs.Header.{header_number_index, key_index, flag_index}
use Rattle.zed_types.specs.Board.{board_text_index}
use Rattle.zed_types.specs.Stat.{stat_number_index}
use Rattle.zed_edit.specs.Header.{set_header}
use Rattle.zed_edit.specs.Board.{set_property, set_board_property, set_board_cells, new_table, new_board, add_stat, change_stats, remove_board}
use Rattle.zed_edit.specs.Stat.{with_number, set_stat, new_stat, remove_stat}
use Rattle.zed_edit.specs.Genesis.{opened_stat, opened_board, opened_boards_from, opened_boards, programs_before}
use Rattle.zed_edit.specs.Document.{empty_document, change_such}
use Rattle.zed_op.specs.Fit.{Fits, is_in_range, is_header_in_range, is_property_in_range, is_at_most, most_of, has_good_stamps, names_earlier, has_good_world}
use Rattle.zed_op.specs.Set.{AllFit}
use Rattle.zed_edit.specs.Replay.{can, step, do_op, do_edit, hold, open_world, replay_on}
use Rattle.zed_laws.specs.Regular.{IsRegularHeader, HasPlayer, AreTexts, IsRegularBoard, IsRegular, ReplayIsRegular}
use Rattle.zed_types.proofs.StampOrder.{same_board-true}
use Rattle.zed_types.proofs.Facts.{all_joined, length-map_from}
use Rattle.zed_laws.proofs.AllBoards.{all_set, each_changed, all_mapped}

-- ---- the header

header_regular : (setting : HeaderSetting) (h : Header) → is_header_in_range setting ≡ true → IsRegularHeader h
    → IsRegularHeader (set_header setting h)
header_regular (header.Number f n) h good r = record { numbers = length-set h.numbers (header_number_index f) n ∙ r.numbers; keys = r.keys; world_name = r.world_name; flags = r.flags; each_flag = r.each_flag }
header_regular (header.Key k b) h good r = record { numbers = r.numbers; keys = length-set h.keys (key_index k) b ∙ r.keys; world_name = r.world_name; flags = r.flags; each_flag = r.each_flag }
header_regular (header.Saved b) h good r =
    record { numbers = r.numbers; keys = r.keys; world_name = r.world_name; flags = r.flags; each_flag = r.each_flag }
header_regular (header.CurrentBoard b) h good r =
    record { numbers = r.numbers; keys = r.keys; world_name = r.world_name; flags = r.flags; each_flag = r.each_flag }
header_regular (header.WorldName s) h good r =
    record { numbers = r.numbers; keys = r.keys; world_name = leb-true (length s) 20 good; flags = r.flags; each_flag = r.each_flag }
header_regular (header.Flag k s) h good r = record {
  numbers = r.numbers;
  keys = r.keys;
  world_name = r.world_name;
  flags = length-set h.flags (flag_index k) s ∙ r.flags;
  each_flag = all_set (λ (x : List ℕ). length x ≤ 20) h.flags (flag_index k) s (leb-true (length s) 20 good) r.each_flag;
}

-- ---- boards

with_properties : (b : Board) (q : Properties) → AreTexts q.texts → IsRegularBoard b → IsRegularBoard (record b { properties = q })
with_properties b q texts r = record { texts = texts; tiles = r.tiles; player = r.player; title_stays = r.title_stays }

text_set : (f : BoardText) (s : List ℕ) (texts : List (List ℕ)) → is_at_most (most_of f) s ≡ true → AreTexts texts
    → AreTexts (set texts (board_text_index f) s)
text_set f s [] good h = absurd h
text_set f s (n ∷ []) good h = absurd h
text_set Name s (n ∷ m ∷ []) good h = (leb-true (length s) 50 good, h.1)
text_set Message s (n ∷ m ∷ []) good h = (h.0, leb-true (length s) 58 good)
text_set f s (n ∷ m ∷ x ∷ xs) good h = absurd h

property_regular : (setting : BoardSetting) (b : Board) → is_property_in_range setting ≡ true → IsRegularBoard b
    → IsRegularBoard (set_board_property setting b)
property_regular (property.Byte f n) b good r = with_properties b (set_property (property.Byte f n) b.properties) r.texts r
property_regular (property.Flag f n) b good r = with_properties b (set_property (property.Flag f n) b.properties) r.texts r
property_regular (property.TimeLimit n) b good r = with_properties b (set_property (property.TimeLimit n) b.properties) r.texts r
property_regular (property.Rank n) b good r = with_properties b (set_property (property.Rank n) b.properties) r.texts r
property_regular (property.Exit f n) b good r = with_properties b (set_property (property.Exit f n) b.properties) r.texts r
property_regular (property.Text f s) b good r =
    with_properties b (set_property (property.Text f s) b.properties) (text_set f s b.properties.texts good r.texts) r

cells_regular : (r : Rectangle) (tile : Tile) (b : Board) → IsRegularBoard b → IsRegularBoard (set_board_cells r tile b)
cells_regular r tile b h = record { texts = h.texts; tiles = length-map_from (λ i old. cond (is_inside r (place_at i)) tile old) 0 b.tiles ∙ h.tiles; player = h.player; title_stays = h.title_stays }

same_name : (a b c : BoardId) → same_board a b ≡ true → same_board a c ≡ true → same_board b c ≡ true
same_name a b c h k = let e = same_board-true a b h in rw e at k

removed_regular : (id : BoardId) → not (same_board id title) ≡ true → (b : Board) → same_board b.id id ≡ true → IsRegularBoard b
    → IsRegularBoard (remove_board b)
removed_regular id other b same h = record { texts = h.texts; tiles = h.tiles; player = h.player; title_stays = λ k. absurd (let e = same_name b.id id title same k in let clash : false ≡ true = rw e at other in cc) }

pub length_new_table : length new_table ≡ TILES
unfolding new_table
length_new_table = refl

new_board_regular : (id : BoardId) (player : StatId) (name : List ℕ) → length name ≤ 50 → IsRegularBoard (new_board id player name)
new_board_regular id player name le =
    record { texts = (le, lit≤ tt); tiles = length_new_table; player = (refl, refl); title_stays = λ k. refl }

-- ---- stats

with_stats : (b : Board) (ss : List Stat) → HasPlayer ss → IsRegularBoard b → IsRegularBoard (record b { stats = ss })
with_stats b ss player r = record { texts = r.texts; tiles = r.tiles; player = player; title_stays = r.title_stays }

player_then : (ss : List Stat) (s : Stat) → HasPlayer ss → HasPlayer (ss ++ s ∷ [])
player_then [] s h = absurd h
player_then (x ∷ xs) s h = h

player_changed : (test : Stat → Bool) (f : Stat → Stat) (ss : List Stat)
    → ((s : Stat) → (s.is_player ≡ true) × (s.removed ≡ false) → ((f s).is_player ≡ true) × ((f s).removed ≡ false)) → HasPlayer ss
    → HasPlayer (change_such test f ss)
player_changed test f [] keeps h = absurd h
player_changed test f (s ∷ ss) keeps h = one (test s)
  where
    one : (t : Bool) → ((cond t (f s) s).is_player ≡ true) × ((cond t (f s) s).removed ≡ false)
    one true = keeps s h
    one false = h

removed_stat : (s : Stat) → (s.is_player ≡ true) × (s.removed ≡ false)
    → ((remove_stat s).is_player ≡ true) × ((remove_stat s).removed ≡ false)
removed_stat s h = (h.0, ap not h.0)

number_keeps : (o : Option ℕ) (n : ℤ) (s : Stat) → (s.is_player ≡ true) × (s.removed ≡ false)
    → ((with_number o n s).is_player ≡ true) × ((with_number o n s).removed ≡ false)
number_keeps (Some i) n s h = h
number_keeps None n s h = h

set_keeps : (setting : StatSetting) (s : Stat) → (s.is_player ≡ true) × (s.removed ≡ false)
    → ((set_stat setting s).is_player ≡ true) × ((set_stat setting s).removed ≡ false)
set_keeps (stat.Byte f n) s h = h
set_keeps (stat.Number f n) s h = number_keeps (stat_number_index f) n s h
set_keeps (stat.P3 p) s h = h
set_keeps (stat.Follower o) s h = h
set_keeps (stat.Leader o) s h = h
set_keeps (stat.Text o) s h = h

stats_regular : (id : StatId) (f : Stat → Stat)
    → ((s : Stat) → (s.is_player ≡ true) × (s.removed ≡ false) → ((f s).is_player ≡ true) × ((f s).removed ≡ false)) → (b : Board)
    → IsRegularBoard b
    → IsRegularBoard (change_stats (change_such (λ x. same_stat x.id id) f) b)
stats_regular id f keeps b r =
    with_stats b (change_such (λ x. same_stat x.id id) f b.stats) (player_changed (λ x. same_stat x.id id) f b.stats keeps r.player) r

-- ---- the world of a file

opened_player : (s : Stamp) (m t : ℕ) (b : BoardData) (xs : List StatData) → 1 ≤ length xs → HasPlayer (map_from (opened_stat s m t b) 0 xs)
opened_player s m t b [] le = absurd (omega arith)
opened_player s m t b (x ∷ xs) le = (refl, refl)

opened_regular : (s : Stamp) (n m t boards : ℕ) (b : BoardData) → IsNormalBoard boards b → IsRegularBoard (opened_board s n m t b)
opened_regular s n m t boards b h = record { texts = (h.name, h.properties.message); tiles = h.tiles; player = opened_player s m t b b.stats h.some; title_stays = λ k. refl }

all_opened : (s : Stamp) (n m t boards : ℕ) (bs : List BoardData) → AllByRecursion (IsNormalBoard boards) bs
    → AllByRecursion IsRegularBoard (opened_boards_from s n m t bs)
all_opened s n m t boards [] h = tt
all_opened s n m t boards (b ∷ bs) h = (opened_regular s n m t boards b h.0, all_opened s (n + 1) (m + length b.stats) (t + programs_before (length b.stats) b.stats) boards bs h.1)

-- what is read from a file is normal
abbrev pub ReadIsNormal : Type 0
ReadIsNormal = (bytes : List ℕ) (w : Contents) → world_at bytes ≡ Ok w → HasNormalParts w

world_regular : (s : Stamp) (r : Result Contents WorldError) (p : Plain) → ((w : Contents) → r ≡ Ok w → HasNormalParts w) → IsRegular p
    → IsRegular (open_world s r p)
world_regular s (Err e) p normal h = h
world_regular s (Ok w) p normal h =
    let n = normal w refl in
    record {
      header = record { numbers = refl; keys = n.header.keys; world_name = n.header.name; flags = n.header.flags; each_flag = n.header.each_flag };
      boards =
          all_joined IsRegularBoard p.boards (opened_boards s w.boards) h.boards (all_opened s 0 0 0 (length w.boards) w.boards n.boards);
    }

-- ---- every edit

in_range : (a r n g : Bool)
    → cond (not a) (Some cause.Stamp) (cond (not r) (Some cause.Range) (cond (not n) (Some cause.Order) (cond (not g) (Some cause.Genesis) None)))
    ≡ None
    → r ≡ true
in_range false r n g h = absurd (cc)
in_range true false n g h = absurd (cc)
in_range true true n g h = refl

op_regular : ReadIsNormal → (s : Stamp) (op : Op) (p : Plain) → is_in_range op ≡ true → IsRegular p → IsRegular (do_op s op p)
op_regular law s (Genesis bytes) p good r = world_regular s (world_at bytes) p (law bytes) r
op_regular law s (SetHeader setting) p good r = record { header = header_regular setting p.header good r.header; boards = r.boards }
op_regular law s (BoardAdd name) p good r = record { header = r.header; boards = all_joined IsRegularBoard p.boards (new_board (board_of s 0) (stat_of s 0) name ∷ []) r.boards (new_board_regular (board_of s 0) (stat_of s 0) name (leb-true (length name) 50 good), tt) }
op_regular law s (BoardRemove b) p good r = record { header = r.header; boards = each_changed IsRegularBoard (λ x. same_board x.id b) remove_board p.boards (removed_regular b good) r.boards }
op_regular law s (SetBoard b setting) p good r = record { header = r.header; boards = each_changed IsRegularBoard (λ x. same_board x.id b) (set_board_property setting) p.boards (λ x same h. property_regular setting x good h) r.boards }
op_regular law s (SetCells b rectangle tile) p good r = record { header = r.header; boards = each_changed IsRegularBoard (λ x. same_board x.id b) (set_board_cells rectangle tile) p.boards (λ x same h. cells_regular rectangle tile x h) r.boards }
op_regular law s (StatAdd b fields) p good r = record { header = r.header; boards = each_changed IsRegularBoard (λ x. same_board x.id b) (add_stat (new_stat (stat_of s 0) false fields)) p.boards (λ x same h. with_stats x (x.stats ++ new_stat (stat_of s 0) false fields ∷ []) (player_then x.stats (new_stat (stat_of s 0) false fields) h.player) h) r.boards }
op_regular law s (StatRemove x) p good r = record { header = r.header; boards = all_mapped IsRegularBoard (change_stats (change_such (λ y. same_stat y.id x) remove_stat)) p.boards (stats_regular x remove_stat removed_stat) r.boards }
op_regular law s (SetStat x setting) p good r = record { header = r.header; boards = all_mapped IsRegularBoard (change_stats (change_such (λ y. same_stat y.id x) (set_stat setting))) p.boards (stats_regular x (set_stat setting) (set_keeps setting)) r.boards }
op_regular law s TextAdd p good r = record { header = r.header; boards = r.boards }
op_regular law s (TextInsert t after bytes) p good r = record { header = r.header; boards = r.boards }
op_regular law s (TextDelete t range) p good r = record { header = r.header; boards = r.boards }

pub step_regular : ReadIsNormal → (p : Plain) (e : Edit) → Fits e → IsRegular p → IsRegular (step p e)
step_regular law p e fits r = either (can p e)
  where
    good : is_in_range e.op ≡ true
    good = in_range (has_good_stamps e) (is_in_range e.op) (names_earlier e) (has_good_world e.op) fits

    either : (t : Bool) → IsRegular (cond t (do_edit p e) (hold p e))
    either true = op_regular law e.stamp e.op p good r
    either false = record { header = r.header; boards = r.boards }

pub replay_on_regular : ReadIsNormal → (p : Plain) (es : List Edit) → AllFit es → IsRegular p → IsRegular (replay_on p es)
replay_on_regular law p [] fit r = r
replay_on_regular law p (e ∷ es) fit r = replay_on_regular law (step p e) es fit.1 (step_regular law p e fit.0 r)

pub empty_regular : IsRegular empty_document
empty_regular =
    let none : 0 ≤ 20 = lit≤ tt in
    record { header = record { numbers = refl; keys = refl; world_name = none; flags = refl; each_flag = (none, (none, (none, (none, (none, (none, (none, (none, (none, (none, tt)))))))))) }; boards = tt }

pub replay_regular : ReadIsNormal → ReplayIsRegular
replay_regular law es fit = replay_on_regular law empty_document es fit empty_regular
