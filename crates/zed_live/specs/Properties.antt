-- The properties of a live board: each register with its latest write, if it was ever written.
use Rattle.std.specs.Prelude.{◌≡◌, Bool, false, List, ◌∷◌, ◌++◌, length, replicate, Some, None}
use Rattle.zed_types.specs.declared.stamp.Stamp.{Stamp}
use Rattle.zed_types.specs.declared.names.BoardId.{BoardId}
use Rattle.zed_types.specs.declared.property.Side.{Side}
use Rattle.zed_types.specs.declared.property.BoardByte.{BoardByte}
use Rattle.zed_types.specs.declared.property.BoardFlag.{BoardFlag}
use Rattle.zed_types.specs.declared.property.BoardText.{BoardText}
use Rattle.zed_types.specs.declared.property.BoardSetting.{BoardSetting}
use Rattle.zed_types.specs.declared.property.BoardSetting.TheVariants.{Byte, Flag, TimeLimit, Rank, Exit, Text}
use Rattle.zed_types.specs.Names.{same_board}
use Rattle.zed_types.specs.Board.{board_byte_index, board_flag_index, side_index, board_text_index}
use Rattle.zed_types.specs.Register.{keep_later, written_at}
use Rattle.zed_op.specs.declared.op.Op.{Op}
use Rattle.zed_op.specs.declared.op.Op.TheVariants.{SetBoard}
use Rattle.zed_op.specs.declared.op.Edit.{Edit}
use Rattle.zed_op.specs.Set.{IsRising}
use Rattle.zed_edit.specs.declared.plain.Properties.{Properties}
use Rattle.zed_edit.specs.declared.plain.Board.{Board}
use Rattle.zed_laws.specs.Fields.{board_byte, board_flag, time_limit, rank, exit, board_text}
use Rattle.zed_laws.specs.Winners.{of_board, find_board, made_boards}
use Rattle.zed_laws.specs.Whole.{IsWholeBoard}
use Rattle.zed_cells.specs.Writes.{register, set_register}
use Rattle.zed_live.specs.declared.properties.LiveProperties.{LiveProperties}
use Rattle.zed_live.specs.Header.{write_each}
use Rattle.zed_live.specs.Shows.{latest_in}

-- properties that no edit wrote
abbrev pub unwritten : LiveProperties
unwritten = record {
  bytes = replicate 3 None;
  flags = replicate 2 None;
  time_limit = None;
  rank = None;
  exits = replicate 4 None;
  texts = replicate 2 None;
}

-- the register of a setting keeps the later of what it has and a new write
abbrev pub write_property : Stamp → BoardSetting → LiveProperties → LiveProperties
write_property s (Byte f n) p = record p { bytes = set_register (board_byte_index f) (written_at s n) p.bytes }
write_property s (Flag f v) p = record p { flags = set_register (board_flag_index f) (written_at s v) p.flags }
write_property s (TimeLimit n) p = record p { time_limit = keep_later p.time_limit (written_at s n) }
write_property s (Rank n) p = record p { rank = keep_later p.rank (written_at s n) }
write_property s (Exit f b) p = record p { exits = set_register (side_index f) (written_at s b) p.exits }
write_property s (Text f n) p = record p { texts = set_register (board_text_index f) (written_at s n) p.texts }

-- all registers keep the later of what they have and a write of the value of other properties
abbrev pub write_properties : Stamp → Properties → LiveProperties → LiveProperties
write_properties s new p = record {
  bytes = write_each s new.bytes p.bytes;
  flags = write_each s new.flags p.flags;
  time_limit = keep_later p.time_limit (written_at s new.time_limit);
  rank = keep_later p.rank (written_at s new.rank);
  exits = write_each s new.exits p.exits;
  texts = write_each s new.texts p.texts;
}

-- each property of a board has the latest write of these edits
pub record PropertiesShow (b : BoardId) (es : List Edit) (p : LiveProperties) : Type 0 where
  pub three : length p.bytes ≡ 3
  pub two_flags : length p.flags ≡ 2
  pub four : length p.exits ≡ 4
  pub two_texts : length p.texts ≡ 2
  pub bytes : (f : BoardByte) → register (board_byte_index f) p.bytes ≡ latest_in (of_board b (board_byte f)) es
  pub flags : (f : BoardFlag) → register (board_flag_index f) p.flags ≡ latest_in (of_board b (board_flag f)) es
  pub time_limit : p.time_limit ≡ latest_in (of_board b time_limit) es
  pub rank : p.rank ≡ latest_in (of_board b rank) es
  pub exits : (f : Side) → register (side_index f) p.exits ≡ latest_in (of_board b (exit f)) es
  pub texts : (f : BoardText) → register (board_text_index f) p.texts ≡ latest_in (of_board b (board_text f)) es

-- a setting that comes late is put in as if it had come at its place
abbrev pub PropertiesTakeSettings : Type 0
PropertiesTakeSettings =
    (b : BoardId) (s : Stamp) (setting : BoardSetting) (low high : List Edit) (p : LiveProperties)
    → IsRising (low ++ record { stamp = s; op = SetBoard b setting } ∷ high)
    → PropertiesShow b (low ++ high) p
    → PropertiesShow b (low ++ record { stamp = s; op = SetBoard b setting } ∷ high) (write_property s setting p)

-- an edit that makes the board writes all of them, however late it comes
abbrev pub PropertiesTakeMaking : Type 0
PropertiesTakeMaking =
    (b : BoardId) (e : Edit) (made : Board) (low high : List Edit) (p : LiveProperties)
    → IsRising (low ++ e ∷ high)
    → find_board b (made_boards e.stamp e.op) ≡ Some made
    → IsWholeBoard made
    → PropertiesShow b (low ++ high) p
    → PropertiesShow b (low ++ e ∷ high) (write_properties e.stamp made.properties p)

-- whether an op sets a property of a board
abbrev pub sets_property : BoardId → Op → Bool
sets_property b (SetBoard c setting) = same_board c b
sets_property b _ = false

-- an edit that neither makes the board nor sets a property of it leaves them
abbrev pub PropertiesPassOthers : Type 0
PropertiesPassOthers =
    (b : BoardId) (e : Edit) (low high : List Edit) (p : LiveProperties)
    → IsRising (low ++ e ∷ high)
    → find_board b (made_boards e.stamp e.op) ≡ None
    → sets_property b e.op ≡ false
    → PropertiesShow b (low ++ high) p
    → PropertiesShow b (low ++ e ∷ high) p
