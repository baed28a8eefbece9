-- The header of a live document: each register with its latest write, if it was ever written.
use Rattle.std.specs.Prelude.{List, [], ◌∷◌, replicate, Option, None, Result, Ok, Err}
use Rattle.zed_types.specs.declared.stamp.Stamp.{Stamp}
use Rattle.zed_types.specs.declared.written.Written.{Written}
use Rattle.zed_types.specs.declared.header.HeaderSetting.{HeaderSetting}
use Rattle.zed_types.specs.declared.header.HeaderSetting.TheVariants.{Number, Key, Saved, CurrentBoard, WorldName, Flag}
use Rattle.zed_types.specs.Header.{header_number_index, key_index, flag_index}
use Rattle.zed_types.specs.Register.{keep_later, written_at}
use Rattle.zed_world.specs.Contents.{Contents}
use Rattle.zed_world.specs.Reading.{world_at}
use Rattle.zed_world.specs.declared.error.WorldError.{WorldError}
use Rattle.zed_op.specs.declared.op.Op.{Op}
use Rattle.zed_op.specs.declared.op.Op.TheVariants.{Genesis, SetHeader}
use Rattle.zed_edit.specs.declared.plain.Header.{Header}
use Rattle.zed_edit.specs.Genesis.{header_of}
use Rattle.zed_cells.specs.Writes.{set_register}
use Rattle.zed_live.specs.declared.header.LiveHeader.{LiveHeader}

-- a header that no edit wrote
abbrev pub unwritten : LiveHeader
unwritten = record {
  numbers = replicate 9 None;
  keys = replicate 7 None;
  saved = None;
  current_board = None;
  world_name = None;
  flags = replicate 10 None;
}

-- the register of a setting keeps the later of what it has and a new write
abbrev pub write_header : Stamp → HeaderSetting → LiveHeader → LiveHeader
write_header s (Number f n) h = record h { numbers = set_register (header_number_index f) (written_at s n) h.numbers }
write_header s (Key k b) h = record h { keys = set_register (key_index k) (written_at s b) h.keys }
write_header s (Saved b) h = record h { saved = keep_later h.saved (written_at s b) }
write_header s (CurrentBoard b) h = record h { current_board = keep_later h.current_board (written_at s b) }
write_header s (WorldName n) h = record h { world_name = keep_later h.world_name (written_at s n) }
write_header s (Flag k n) h = record h { flags = set_register (flag_index k) (written_at s n) h.flags }

-- each register of a table keeps the later of what it has and a write of the value at its place
abbrev pub write_each : {V : Type 0} → Stamp → List V → List (Option (Written V)) → List (Option (Written V))
write_each s [] rs = rs
write_each s (v ∷ vs) [] = []
write_each s (v ∷ vs) (r ∷ rs) = keep_later r (written_at s v) ∷ write_each s vs rs

-- all registers keep the later of what they have and a write of the value in another header
abbrev pub write_all : Stamp → Header → LiveHeader → LiveHeader
write_all s new h = record {
  numbers = write_each s new.numbers h.numbers;
  keys = write_each s new.keys h.keys;
  saved = keep_later h.saved (written_at s new.saved);
  current_board = keep_later h.current_board (written_at s new.current_board);
  world_name = keep_later h.world_name (written_at s new.world_name);
  flags = write_each s new.flags h.flags;
}

-- all registers are written by the header of a world file, if it is one
abbrev pub open_header : Stamp → Result Contents WorldError → LiveHeader → LiveHeader
open_header s (Ok w) h = write_all s (header_of s w.header) h
open_header s (Err e) h = h

-- the header after an edit, whenever it comes
abbrev pub header_after : Stamp → Op → LiveHeader → LiveHeader
header_after s (Genesis bytes) h = open_header s (world_at bytes) h
header_after s (SetHeader setting) h = write_header s setting h
header_after s _ h = h
