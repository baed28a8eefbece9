-- The properties of a board take each edit as if it had come at its place.
use Rattle.std.proofs.Common.{◌≡◌, ◌∙◌, ℕ, Bool, true, false, cond, List, [], ◌∷◌, ◌++◌, length, get_or, ltb, Option, Some, None, refl, ap, sym, arith}
use Rattle.std.specs.Option.{option_or, option_map}
use Rattle.std.proofs.lemmas.Bool.{ltb-true}
use Rattle.std.proofs.lemmas.List.{length-set}
use Rattle.zed_types.specs.declared.stamp.Stamp.{Stamp}
use Rattle.zed_types.specs.declared.written.Written.{Written}
use Rattle.zed_types.specs.declared.names.BoardId.{BoardId}
use Rattle.zed_types.specs.declared.property.Side.{Side}
use Rattle.zed_types.specs.declared.property.BoardByte.{BoardByte}
use Rattle.zed_types.specs.declared.property.BoardFlag.{BoardFlag}
use Rattle.zed_types.specs.declared.property.BoardText.{BoardText}
use Rattle.zed_types.specs.declared.property.BoardSetting.{BoardSetting}
use Rattle.zed_types.specs.declared.property.BoardSetting.TheVariants as property
use Rattle.zed_types.specs.Names.{same_board}
use Rattle.zed_types.specs.Board.{board_byte_index, board_flag_index, side_index, board_text_index}
use Rattle.zed_types.specs.Register.{keep_later, written_at}
use Rattle.zed_types.proofs.StampOrder.{same_name-itself}
use Rattle.zed_op.specs.declared.op.Op.{Op}
use Rattle.zed_op.specs.declared.op.Op.TheVariants.{SetBoard, BoardRemove, SetCells}
use Rattle.zed_op.specs.declared.op.Edit.{Edit}
use Rattle.zed_op.specs.Set.{IsRising}
use Rattle.zed_edit.specs.declared.plain.Board.{Board}
use Rattle.zed_laws.specs.Registers.{kept_after}
use Rattle.zed_laws.specs.Fields.{Field, by_board, board_byte, board_byte_set, board_flag, board_flag_set, time_limit, time_limit_set, rank, rank_set, exit, exit_set, board_text, board_text_set}
use Rattle.zed_laws.specs.Winners.{Register, of_board, find_board, made_boards, changes_board}
use Rattle.zed_laws.specs.Whole.{IsWholeBoard}
use Rattle.zed_laws.proofs.BoardFields.{byte-within, flag-within, side-within, text-within}
use Rattle.zed_cells.specs.Writes.{register}
use Rattle.zed_live.specs.declared.properties.LiveProperties.{LiveProperties}
use Rattle.zed_live.specs.Header.{write_each}
use Rattle.zed_live.specs.Properties.{write_property, write_properties, PropertiesShow, PropertiesTakeSettings, PropertiesTakeMaking, sets_property, PropertiesPassOthers}
use Rattle.zed_live.proofs.HeaderTakes.{Puts, put-late}
use Rattle.zed_live.proofs.Tables.{write_each-at, write_each-length, set_register-at}

-- properties with all their places
record HasTables (p : LiveProperties) : Type 0 where
  pub three : length p.bytes ≡ 3
  pub two_flags : length p.flags ≡ 2
  pub four : length p.exits ≡ 4
  pub two_texts : length p.texts ≡ 2

-- all properties of a board after an edit
record PropertiesPut (b : BoardId) (e : Edit) (old new : LiveProperties) : Type 0 where
  pub tables : HasTables new
  pub bytes : (f : BoardByte)
      → Puts (of_board b (board_byte f)) e (register (board_byte_index f) old.bytes) (register (board_byte_index f) new.bytes)
  pub flags : (f : BoardFlag)
      → Puts (of_board b (board_flag f)) e (register (board_flag_index f) old.flags) (register (board_flag_index f) new.flags)
  pub time_limit : Puts (of_board b time_limit) e old.time_limit new.time_limit
  pub rank : Puts (of_board b rank) e old.rank new.rank
  pub exits : (f : Side) → Puts (of_board b (exit f)) e (register (side_index f) old.exits) (register (side_index f) new.exits)
  pub texts : (f : BoardText)
      → Puts (of_board b (board_text f)) e (register (board_text_index f) old.texts) (register (board_text_index f) new.texts)

show-late : (b : BoardId) (e : Edit) (low high : List Edit) (old new : LiveProperties) → IsRising (low ++ e ∷ high)
    → PropertiesPut b e old new → PropertiesShow b (low ++ high) old
    → PropertiesShow b (low ++ e ∷ high) new
show-late b e low high old new rises put was = record {
  three = put.tables.three;
  two_flags = put.tables.two_flags;
  four = put.tables.four;
  two_texts = put.tables.two_texts;
  bytes = λ f. put-late (of_board b (board_byte f)) e low high (register (board_byte_index f) old.bytes) (register (board_byte_index f) new.bytes) rises (was.bytes f) (put.bytes f);
  flags = λ f. put-late (of_board b (board_flag f)) e low high (register (board_flag_index f) old.flags) (register (board_flag_index f) new.flags) rises (was.flags f) (put.flags f);
  time_limit = put-late (of_board b time_limit) e low high old.time_limit new.time_limit rises was.time_limit put.time_limit;
  rank = put-late (of_board b rank) e low high old.rank new.rank rises was.rank put.rank;
  exits = λ f. put-late (of_board b (exit f)) e low high (register (side_index f) old.exits) (register (side_index f) new.exits) rises (was.exits f) (put.exits f);
  texts = λ f. put-late (of_board b (board_text f)) e low high (register (board_text_index f) old.texts) (register (board_text_index f) new.texts) rises (was.texts f) (put.texts f);
}

tables-of : (b : BoardId) (es : List Edit) (p : LiveProperties) → PropertiesShow b es p → HasTables p
tables-of b es p was = record { three = was.three; two_flags = was.two_flags; four = was.four; two_texts = was.two_texts }

-- ---- what an edit writes

-- a setting of the board writes what it sets
module _ {V : Type 0} (value : Board → V) (set : BoardSetting → Option V) (b : BoardId) where
  abbrev field : Field Board V
  field = record { value = value; set = by_board set }

  setting-writes : (s : Stamp) (setting : BoardSetting)
      → (of_board b field).writes (record { stamp = s; op = SetBoard b setting }) ≡ set setting
  setting-writes s setting = ap (λ (c : Bool). cond c (set setting) None) (same_name-itself b.name)

  made-writes : (e : Edit) (made : Board) → find_board b (made_boards e.stamp e.op) ≡ Some made
      → (of_board b field).writes e ≡ Some (value made)
  made-writes e made is = ap (λ m. option_or (option_map value m) (cond (changes_board b e.op) (by_board set e.op) None)) is

  either : (c : Bool) (o : Option V) → cond c o o ≡ o
  either true o = refl
  either false o = refl

  sets-none : (op : Op) → sets_property b op ≡ false → cond (changes_board b op) (by_board set op) None ≡ None
  sets-none (SetBoard c setting) h = ap (λ (d : Bool). cond d (set setting) None) h
  sets-none (BoardRemove c) h = either (same_board c b) None
  sets-none (SetCells c cells tile) h = either (same_board c b) None
  sets-none _ h = refl

  beside-writes : (e : Edit) → find_board b (made_boards e.stamp e.op) ≡ None → sets_property b e.op ≡ false
      → (of_board b field).writes e ≡ None
  beside-writes e is h =
      ap (λ m. option_or (option_map value m) (cond (changes_board b e.op) (by_board set e.op) None)) is ∙ sets-none e.op h

-- where it is known what is written
pub wrote : {V : Type 0} (r : Register V) (e : Edit) (old new : Option (Written V)) (w : Option V) → r.writes e ≡ w
    → new ≡ kept_after e.stamp old w
    → Puts r e old new
wrote r e old new w is puts = puts ∙ ap (kept_after e.stamp old) (sym is)

-- ---- a setting

abbrev by_setting : BoardId → Stamp → BoardSetting → Edit
by_setting b s setting = record { stamp = s; op = SetBoard b setting }

set-tables : (s : Stamp) (setting : BoardSetting) (p : LiveProperties) → HasTables p → HasTables (write_property s setting p)
set-tables s (property.Byte f n) p t = record { three = length-set p.bytes (board_byte_index f) (keep_later (register (board_byte_index f) p.bytes) (written_at s n)) ∙ t.three; two_flags = t.two_flags; four = t.four; two_texts = t.two_texts }
set-tables s (property.Flag f v) p t = record { three = t.three; two_flags = length-set p.flags (board_flag_index f) (keep_later (register (board_flag_index f) p.flags) (written_at s v)) ∙ t.two_flags; four = t.four; two_texts = t.two_texts }
set-tables s (property.TimeLimit n) p t = record { three = t.three; two_flags = t.two_flags; four = t.four; two_texts = t.two_texts }
set-tables s (property.Rank n) p t = record { three = t.three; two_flags = t.two_flags; four = t.four; two_texts = t.two_texts }
set-tables s (property.Exit f o) p t = record { three = t.three; two_flags = t.two_flags; four = length-set p.exits (side_index f) (keep_later (register (side_index f) p.exits) (written_at s o)) ∙ t.four; two_texts = t.two_texts }
set-tables s (property.Text f n) p t = record { three = t.three; two_flags = t.two_flags; four = t.four; two_texts = length-set p.texts (board_text_index f) (keep_later (register (board_text_index f) p.texts) (written_at s n)) ∙ t.two_texts }

set-byte : (s : Stamp) (setting : BoardSetting) (p : LiveProperties) → length p.bytes ≡ 3 → (f : BoardByte)
    → register (board_byte_index f) (write_property s setting p).bytes
    ≡ kept_after s (register (board_byte_index f) p.bytes) (board_byte_set f setting)
set-byte s (property.Byte g n) p e f = set_register-at s n p.bytes 3 (board_byte_index f) (board_byte_index g) e (byte-within f)
set-byte s (property.Flag g v) p e f = refl
set-byte s (property.TimeLimit n) p e f = refl
set-byte s (property.Rank n) p e f = refl
set-byte s (property.Exit g o) p e f = refl
set-byte s (property.Text g n) p e f = refl

set-flag : (s : Stamp) (setting : BoardSetting) (p : LiveProperties) → length p.flags ≡ 2 → (f : BoardFlag)
    → register (board_flag_index f) (write_property s setting p).flags
    ≡ kept_after s (register (board_flag_index f) p.flags) (board_flag_set f setting)
set-flag s (property.Flag g v) p e f = set_register-at s v p.flags 2 (board_flag_index f) (board_flag_index g) e (flag-within f)
set-flag s (property.Byte g n) p e f = refl
set-flag s (property.TimeLimit n) p e f = refl
set-flag s (property.Rank n) p e f = refl
set-flag s (property.Exit g o) p e f = refl
set-flag s (property.Text g n) p e f = refl

set-limit : (s : Stamp) (setting : BoardSetting) (p : LiveProperties)
    → (write_property s setting p).time_limit ≡ kept_after s p.time_limit (time_limit_set setting)
set-limit s (property.TimeLimit n) p = refl
set-limit s (property.Rank n) p = refl
set-limit s (property.Byte g n) p = refl
set-limit s (property.Flag g v) p = refl
set-limit s (property.Exit g o) p = refl
set-limit s (property.Text g n) p = refl

set-rank : (s : Stamp) (setting : BoardSetting) (p : LiveProperties)
    → (write_property s setting p).rank ≡ kept_after s p.rank (rank_set setting)
set-rank s (property.Rank n) p = refl
set-rank s (property.TimeLimit n) p = refl
set-rank s (property.Byte g n) p = refl
set-rank s (property.Flag g v) p = refl
set-rank s (property.Exit g o) p = refl
set-rank s (property.Text g n) p = refl

set-exit : (s : Stamp) (setting : BoardSetting) (p : LiveProperties) → length p.exits ≡ 4 → (f : Side)
    → register (side_index f) (write_property s setting p).exits ≡ kept_after s (register (side_index f) p.exits) (exit_set f setting)
set-exit s (property.Exit g o) p e f = set_register-at s o p.exits 4 (side_index f) (side_index g) e (side-within f)
set-exit s (property.Byte g n) p e f = refl
set-exit s (property.Flag g v) p e f = refl
set-exit s (property.TimeLimit n) p e f = refl
set-exit s (property.Rank n) p e f = refl
set-exit s (property.Text g n) p e f = refl

set-text : (s : Stamp) (setting : BoardSetting) (p : LiveProperties) → length p.texts ≡ 2 → (f : BoardText)
    → register (board_text_index f) (write_property s setting p).texts
    ≡ kept_after s (register (board_text_index f) p.texts) (board_text_set f setting)
set-text s (property.Text g n) p e f = set_register-at s n p.texts 2 (board_text_index f) (board_text_index g) e (text-within f)
set-text s (property.Byte g n) p e f = refl
set-text s (property.Flag g v) p e f = refl
set-text s (property.TimeLimit n) p e f = refl
set-text s (property.Rank n) p e f = refl
set-text s (property.Exit g o) p e f = refl

setting-put : (b : BoardId) (s : Stamp) (setting : BoardSetting) (p : LiveProperties) → HasTables p
    → PropertiesPut b (by_setting b s setting) p (write_property s setting p)
setting-put b s setting p t =
    let e = by_setting b s setting in
    let new = write_property s setting p in
    record {
      tables = set-tables s setting p t;
      bytes = λ f. wrote (of_board b (board_byte f)) e (register (board_byte_index f) p.bytes) (register (board_byte_index f) new.bytes) (board_byte_set f setting) (setting-writes (λ x. (board_byte f).value x) (board_byte_set f) b s setting) (set-byte s setting p t.three f);
      flags = λ f. wrote (of_board b (board_flag f)) e (register (board_flag_index f) p.flags) (register (board_flag_index f) new.flags) (board_flag_set f setting) (setting-writes (λ x. (board_flag f).value x) (board_flag_set f) b s setting) (set-flag s setting p t.two_flags f);
      time_limit = wrote (of_board b time_limit) e p.time_limit new.time_limit (time_limit_set setting) (setting-writes (λ x. time_limit.value x) time_limit_set b s setting) (set-limit s setting p);
      rank = wrote (of_board b rank) e p.rank new.rank (rank_set setting) (setting-writes (λ x. rank.value x) rank_set b s setting) (set-rank s setting p);
      exits = λ f. wrote (of_board b (exit f)) e (register (side_index f) p.exits) (register (side_index f) new.exits) (exit_set f setting) (setting-writes (λ x. (exit f).value x) (exit_set f) b s setting) (set-exit s setting p t.four f);
      texts = λ f. wrote (of_board b (board_text f)) e (register (board_text_index f) p.texts) (register (board_text_index f) new.texts) (board_text_set f setting) (setting-writes (λ x. (board_text f).value x) (board_text_set f) b s setting) (set-text s setting p t.two_texts f);
    }

pub properties_take_settings : PropertiesTakeSettings
properties_take_settings b s setting low high p rises was =
    show-late b (by_setting b s setting) low high p (write_property s setting p) rises (setting-put b s setting p (tables-of b (low ++ high) p was)) was

-- ---- the making of the board

-- a register of a table takes the value at its place
table-put : {V : Type 0} (value : Board → V) (set : BoardSetting → Option V) (b : BoardId) (e : Edit) (made : Board) (vs : List V) (rs : List (Option (Written V))) (i n : ℕ) (d : V)
    → find_board b (made_boards e.stamp e.op) ≡ Some made → value made ≡ get_or vs i d → length vs ≡ n → length rs ≡ n → ltb i n ≡ true
    → Puts (of_board b (record { value = value; set = by_board set })) e (register i rs) (register i (write_each e.stamp vs rs))
table-put value set b e made vs rs i n d is at size length within =
    let l = ltb-true i n within in
    wrote (of_board b (record { value = value; set = by_board set })) e (register i rs) (register i (write_each e.stamp vs rs)) (Some (get_or vs i d))
    (made-writes value set b e made is ∙ ap Some at)
    (write_each-at e.stamp vs rs i d (omega (arith, l, size)) (size ∙ sym length))

made-put : (b : BoardId) (e : Edit) (made : Board) (p : LiveProperties) → find_board b (made_boards e.stamp e.op) ≡ Some made
    → IsWholeBoard made → HasTables p
    → PropertiesPut b e p (write_properties e.stamp made.properties p)
made-put b e made p is whole t =
    let new = made.properties in
    record {
      tables = record {
        three = write_each-length e.stamp new.bytes p.bytes ∙ t.three;
        two_flags = write_each-length e.stamp new.flags p.flags ∙ t.two_flags;
        four = write_each-length e.stamp new.exits p.exits ∙ t.four;
        two_texts = write_each-length e.stamp new.texts p.texts ∙ t.two_texts;
      };
      bytes = λ f. table-put (λ x. (board_byte f).value x) (board_byte_set f) b e made new.bytes p.bytes (board_byte_index f) 3 0 is refl whole.bytes t.three (byte-within f);
      flags = λ f. table-put (λ x. (board_flag f).value x) (board_flag_set f) b e made new.flags p.flags (board_flag_index f) 2 false is refl whole.flags t.two_flags (flag-within f);
      time_limit = wrote (of_board b time_limit) e p.time_limit (keep_later p.time_limit (written_at e.stamp new.time_limit)) (Some new.time_limit) (made-writes (λ x. time_limit.value x) time_limit_set b e made is) refl;
      rank = wrote (of_board b rank) e p.rank (keep_later p.rank (written_at e.stamp new.rank)) (Some new.rank) (made-writes (λ x. rank.value x) rank_set b e made is) refl;
      exits = λ f. table-put (λ x. (exit f).value x) (exit_set f) b e made new.exits p.exits (side_index f) 4 None is refl whole.exits t.four (side-within f);
      texts = λ f. table-put (λ x. (board_text f).value x) (board_text_set f) b e made new.texts p.texts (board_text_index f) 2 [] is refl whole.texts t.two_texts (text-within f);
    }

pub properties_take_making : PropertiesTakeMaking
properties_take_making b e made low high p rises is whole was =
    show-late b e low high p (write_properties e.stamp made.properties p) rises (made-put b e made p is whole (tables-of b (low ++ high) p was)) was

-- ---- other edits

pub properties_pass_others : PropertiesPassOthers
properties_pass_others b e low high p rises is apart was =
    show-late b e low high p p rises
    (record {
      tables = tables-of b (low ++ high) p was;
      bytes = λ f. wrote (of_board b (board_byte f)) e (register (board_byte_index f) p.bytes) (register (board_byte_index f) p.bytes) None (beside-writes (λ x. (board_byte f).value x) (board_byte_set f) b e is apart) refl;
      flags = λ f. wrote (of_board b (board_flag f)) e (register (board_flag_index f) p.flags) (register (board_flag_index f) p.flags) None (beside-writes (λ x. (board_flag f).value x) (board_flag_set f) b e is apart) refl;
      time_limit = wrote (of_board b time_limit) e p.time_limit p.time_limit None (beside-writes (λ x. time_limit.value x) time_limit_set b e is apart) refl;
      rank = wrote (of_board b rank) e p.rank p.rank None (beside-writes (λ x. rank.value x) rank_set b e is apart) refl;
      exits = λ f. wrote (of_board b (exit f)) e (register (side_index f) p.exits) (register (side_index f) p.exits) None (beside-writes (λ x. (exit f).value x) (exit_set f) b e is apart) refl;
      texts = λ f. wrote (of_board b (board_text f)) e (register (board_text_index f) p.texts) (register (board_text_index f) p.texts) None (beside-writes (λ x. (board_text f).value x) (board_text_set f) b e is apart) refl;
    })
    was
