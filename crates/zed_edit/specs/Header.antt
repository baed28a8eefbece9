-- The header of a document, and what a setting does to it.
use Rattle.std.specs.Prelude.{pos, false, [], slice_set, replicate}
use Rattle.zed_types.specs.declared.header.HeaderSetting.{HeaderSetting}
use Rattle.zed_types.specs.declared.header.HeaderSetting.TheVariants.{Number, Key, Saved, CurrentBoard, WorldName, Flag}
use Rattle.zed_types.specs.Header.{header_number_index, key_index, flag_index}
use Rattle.zed_types.specs.Names.{title}
use Rattle.zed_edit.specs.declared.plain.Header.{Header}

-- a header of 0 and empty values
abbrev pub empty_header : Header
empty_header = record {
  numbers = replicate 9 (pos 0);
  keys = replicate 7 false;
  saved = false;
  current_board = title;
  world_name = [];
  flags = replicate 10 [];
}

-- the register of a setting is overwritten
abbrev pub set_header : HeaderSetting → Header → Header
set_header (Number f n) h = record h { numbers = slice_set h.numbers (header_number_index f) n }
set_header (Key k b) h = record h { keys = slice_set h.keys (key_index k) b }
set_header (Saved b) h = record h { saved = b }
set_header (CurrentBoard b) h = record h { current_board = b }
set_header (WorldName s) h = record h { world_name = s }
set_header (Flag k s) h = record h { flags = slice_set h.flags (flag_index k) s }
