-- Every edit whose values have their sizes keeps the signed numbers of a document at sixteen bits.
use Rattle.std.proofs.Common.{◌≡◌, ◌+◌, ℕ, ℤ, pos, Bool, true, false, cond, List, [], ◌∷◌, ◌++◌, length, Option, Some, None, refl, arith, Result, Ok, Err}
use Rattle.std.specs.List.{AllByRecursion}
use Rattle.zed_types.specs.declared.stamp.Stamp.{Stamp}
use Rattle.zed_types.specs.declared.names.BoardId.{BoardId}
use Rattle.zed_types.specs.declared.names.StatId.{StatId}
use Rattle.zed_types.specs.declared.header.HeaderSetting.{HeaderSetting}
use Rattle.zed_types.specs.declared.header.HeaderSetting.TheVariants as header
use Rattle.zed_types.specs.declared.property.BoardSetting.{BoardSetting}
use Rattle.zed_types.specs.declared.property.BoardSetting.TheVariants as property
use Rattle.zed_types.specs.declared.stat_field.StatFields.{StatFields}
use Rattle.zed_types.specs.declared.stat_field.StatSetting.{StatSetting}
use Rattle.zed_types.specs.declared.stat_field.StatSetting.TheVariants as stat
use Rattle.zed_types.specs.Header.{header_number_index}
use Rattle.zed_types.specs.Stat.{stat_number_index}
use Rattle.zed_types.specs.Names.{board_of, stat_of, same_board, same_stat}
use Rattle.zed_types.specs.Table.{map_from}
use Rattle.zed_world.specs.Contents.{Contents}
use Rattle.zed_types.specs.declared.tile.Tile.{Tile}
use Rattle.zed_types.proofs.Facts.{all_joined}
use Rattle.zed_world.specs.declared.error.WorldError.{WorldError}
use Rattle.zed_world.specs.declared.board.BoardData.{BoardData}
use Rattle.zed_world.specs.declared.stat.StatData.{StatData}
use Rattle.zed_world.specs.Reading.{world_at}
use Rattle.zed_world.specs.Normal.{IsInteger, HasNormalParts, IsNormalBoard, AreNormalStats}
use Rattle.zed_op.specs.declared.op.Op.{Op}
use Rattle.zed_op.specs.declared.op.Op.TheVariants.{Genesis, SetHeader, BoardAdd, BoardRemove, SetBoard, SetCells, StatAdd, StatRemove, SetStat, TextAdd, TextInsert, TextDelete}
use Rattle.zed_op.specs.declared.op.Edit.{Edit}
use Rattle.zed_edit.specs.declared.plain.Header.{Header}
use Rattle.zed_edit.specs.declared.plain.Board.{Board}
use Rattle.zed_edit.specs.declared.plain.Stat.{Stat}
use Rattle.zed_edit.specs.declared.plain.Plain.{Plain}
use Rattle.zed_edit.specs.Header.{set_header}
use Rattle.zed_edit.specs.Board.{set_board_property, set_board_cells, new_board, add_stat, change_stats, remove_board}
use Rattle.zed_edit.specs.Stat.{with_number, set_stat, new_stat, player_fields, remove_stat}
use Rattle.zed_edit.specs.Genesis.{opened_stat, opened_boards_from, opened_boards, programs_before}
use Rattle.zed_edit.specs.Document.{empty_document, change_such}
use Rattle.zed_edit.specs.Replay.{can, step, do_op, do_edit, hold, open_world, replay_on}
use Rattle.zed_op.specs.Sizes.{IsHeaderSetting, IsBoardSetting, IsStatSetting, IsOp, HaveSizes}
use Rattle.zed_laws.specs.Integers.{StatHasIntegers, BoardHasIntegers, HasIntegers, ReplayKeepsIntegers}
use Rattle.zed_laws.proofs.AllBoards.{all_set, each_changed, all_mapped}
use Rattle.zed_laws.proofs.RegularSteps.{ReadIsNormal}

nought : IsInteger (pos 0)
nought = omega arith

one : IsInteger (pos 1)
one = omega arith

-- ---- the header

header_kept : (setting : HeaderSetting) (h : Header) → IsHeaderSetting setting → AllByRecursion IsInteger h.numbers
    → AllByRecursion IsInteger (set_header setting h).numbers
header_kept (header.Number f n) h i r = all_set IsInteger h.numbers (header_number_index f) n i r
header_kept (header.Key k b) h i r = r
header_kept (header.Saved b) h i r = r
header_kept (header.CurrentBoard b) h i r = r
header_kept (header.WorldName s) h i r = r
header_kept (header.Flag k s) h i r = r

-- ---- boards and stats

property_kept : (setting : BoardSetting) (b : Board) → IsBoardSetting setting → BoardHasIntegers b
    → BoardHasIntegers (set_board_property setting b)
property_kept (property.Byte f n) b i r = record { time_limit = r.time_limit; stats = r.stats }
property_kept (property.Flag f n) b i r = record { time_limit = r.time_limit; stats = r.stats }
property_kept (property.TimeLimit n) b i r = record { time_limit = i; stats = r.stats }
property_kept (property.Rank n) b i r = record { time_limit = r.time_limit; stats = r.stats }
property_kept (property.Exit f n) b i r = record { time_limit = r.time_limit; stats = r.stats }
property_kept (property.Text f s) b i r = record { time_limit = r.time_limit; stats = r.stats }

number_kept : (o : Option ℕ) (n : ℤ) (s : Stat) → IsInteger n → StatHasIntegers s → StatHasIntegers (with_number o n s)
number_kept (Some k) n s i r = record { numbers = all_set IsInteger s.fields.numbers k n i r.numbers; position = r.position }
number_kept None n s i r = record { numbers = r.numbers; position = i }

stat_kept : (setting : StatSetting) (s : Stat) → IsStatSetting setting → StatHasIntegers s → StatHasIntegers (set_stat setting s)
stat_kept (stat.Byte f n) s i r = record { numbers = r.numbers; position = r.position }
stat_kept (stat.Number f n) s i r = number_kept (stat_number_index f) n s i r
stat_kept (stat.P3 p) s i r = record { numbers = r.numbers; position = r.position }
stat_kept (stat.Follower o) s i r = record { numbers = r.numbers; position = r.position }
stat_kept (stat.Leader o) s i r = record { numbers = r.numbers; position = r.position }
stat_kept (stat.Text o) s i r = record { numbers = r.numbers; position = r.position }

new_stat_kept : (id : StatId) (is_player : Bool) (fields : StatFields) → AllByRecursion IsInteger fields.numbers
    → StatHasIntegers (new_stat id is_player fields)
new_stat_kept id is_player fields i = record { numbers = i; position = nought }

new_board_kept : (id : BoardId) (player : StatId) (name : List ℕ) → BoardHasIntegers (new_board id player name)
new_board_kept id player name =
    record { time_limit = nought; stats = (new_stat_kept player true player_fields (nought, (nought, (one, tt))), tt) }

added_kept : (s : Stat) → StatHasIntegers s → (b : Board) → BoardHasIntegers b → BoardHasIntegers (add_stat s b)
added_kept s i b r = record { time_limit = r.time_limit; stats = all_joined StatHasIntegers b.stats (s ∷ []) r.stats (i, tt) }

changed_kept : (id : StatId) (f : Stat → Stat) → ((s : Stat) → StatHasIntegers s → StatHasIntegers (f s)) → (b : Board) → BoardHasIntegers b
    → BoardHasIntegers (change_stats (change_such (λ x. same_stat x.id id) f) b)
changed_kept id f keeps b r = record { time_limit = r.time_limit; stats = each_changed StatHasIntegers (λ x. same_stat x.id id) f b.stats (λ s same h. keeps s h) r.stats }

-- ---- the world of a file

opened_stats : (s : Stamp) (m t : ℕ) (b : BoardData) (boards stats : ℕ) (tiles : List Tile) (j : ℕ) (lower xs : List StatData)
    → AreNormalStats boards stats tiles lower xs
    → AllByRecursion StatHasIntegers (map_from (opened_stat s m t b) j xs)
opened_stats s m t b boards stats tiles j lower [] h = tt
opened_stats s m t b boards stats tiles j lower (x ∷ xs) h =
    (record { numbers = (h.0.step_x, (h.0.step_y, (h.0.cycle, tt))); position = h.0.position }, opened_stats s m t b boards stats tiles (j + 1) (lower ++ x ∷ []) xs h.1)

all_opened : (s : Stamp) (n m t boards : ℕ) (bs : List BoardData) → AllByRecursion (IsNormalBoard boards) bs
    → AllByRecursion BoardHasIntegers (opened_boards_from s n m t bs)
all_opened s n m t boards [] h = tt
all_opened s n m t boards (b ∷ bs) h =
    (record { time_limit = h.0.properties.time_limit; stats = opened_stats s m t b boards (length b.stats) b.tiles 0 [] b.stats h.0.stats }, all_opened s (n + 1) (m + length b.stats) (t + programs_before (length b.stats) b.stats) boards bs h.1)

world_kept : (s : Stamp) (r : Result Contents WorldError) (p : Plain) → ((w : Contents) → r ≡ Ok w → HasNormalParts w) → HasIntegers p
    → HasIntegers (open_world s r p)
world_kept s (Err e) p normal h = h
world_kept s (Ok w) p normal h =
    let n = normal w refl in
    let k = n.header in
    record {
      header =
          (k.ammo, (k.gems, (k.health, (k.torches, (k.torch_ticks, (k.energizer_ticks, (k.score, (k.time_passed, (k.hundredths, tt)))))))));
      boards =
          all_joined BoardHasIntegers p.boards (opened_boards s w.boards) h.boards (all_opened s 0 0 0 (length w.boards) w.boards n.boards);
    }

-- ---- every edit

op_kept : ReadIsNormal → (s : Stamp) (op : Op) (p : Plain) → IsOp op → HasIntegers p → HasIntegers (do_op s op p)
op_kept law s (Genesis bytes) p i r = world_kept s (world_at bytes) p (law bytes) r
op_kept law s (SetHeader setting) p i r = record { header = header_kept setting p.header i r.header; boards = r.boards }
op_kept law s (BoardAdd name) p i r = record { header = r.header; boards = all_joined BoardHasIntegers p.boards (new_board (board_of s 0) (stat_of s 0) name ∷ []) r.boards (new_board_kept (board_of s 0) (stat_of s 0) name, tt) }
op_kept law s (BoardRemove b) p i r = record { header = r.header; boards = each_changed BoardHasIntegers (λ x. same_board x.id b) remove_board p.boards (λ x same h. record { time_limit = h.time_limit; stats = h.stats }) r.boards }
op_kept law s (SetBoard b setting) p i r = record { header = r.header; boards = each_changed BoardHasIntegers (λ x. same_board x.id b) (set_board_property setting) p.boards (λ x same h. property_kept setting x i.1 h) r.boards }
op_kept law s (SetCells b rectangle tile) p i r = record { header = r.header; boards = each_changed BoardHasIntegers (λ x. same_board x.id b) (set_board_cells rectangle tile) p.boards (λ x same h. record { time_limit = h.time_limit; stats = h.stats }) r.boards }
op_kept law s (StatAdd b fields) p i r =
    let new = new_stat (stat_of s 0) false fields in
    record { header = r.header; boards = each_changed BoardHasIntegers (λ x. same_board x.id b) (add_stat new) p.boards (λ x same h. added_kept new (new_stat_kept (stat_of s 0) false fields i.1.numbers) x h) r.boards }
op_kept law s (StatRemove x) p i r = record { header = r.header; boards = all_mapped BoardHasIntegers (change_stats (change_such (λ y. same_stat y.id x) remove_stat)) p.boards (changed_kept x remove_stat (λ y h. record { numbers = h.numbers; position = h.position })) r.boards }
op_kept law s (SetStat x setting) p i r = record { header = r.header; boards = all_mapped BoardHasIntegers (change_stats (change_such (λ y. same_stat y.id x) (set_stat setting))) p.boards (changed_kept x (set_stat setting) (λ y h. stat_kept setting y i.1 h)) r.boards }
op_kept law s TextAdd p i r = record { header = r.header; boards = r.boards }
op_kept law s (TextInsert t after bytes) p i r = record { header = r.header; boards = r.boards }
op_kept law s (TextDelete t range) p i r = record { header = r.header; boards = r.boards }

step_kept : ReadIsNormal → (p : Plain) (e : Edit) → IsOp e.op → HasIntegers p → HasIntegers (step p e)
step_kept law p e i r = either (can p e)
  where
    either : (t : Bool) → HasIntegers (cond t (do_edit p e) (hold p e))
    either true = op_kept law e.stamp e.op p i r
    either false = record { header = r.header; boards = r.boards }

replay_on_kept : ReadIsNormal → (p : Plain) (es : List Edit) → HaveSizes es → HasIntegers p → HasIntegers (replay_on p es)
replay_on_kept law p [] i r = r
replay_on_kept law p (e ∷ es) i r = replay_on_kept law (step p e) es i.1 (step_kept law p e i.0.1 r)

empty_kept : HasIntegers empty_document
empty_kept = record { header = (nought, (nought, (nought, (nought, (nought, (nought, (nought, (nought, (nought, tt))))))))); boards = tt }

pub replay_kept : ReadIsNormal → ReplayKeepsIntegers
replay_kept law es i = replay_on_kept law empty_document es i empty_kept
