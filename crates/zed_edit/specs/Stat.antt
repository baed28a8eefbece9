-- A stat, and what edits do to it.
use Rattle.std.specs.Prelude.{ℕ, ℤ, pos, Bool, false, not, [], ◌∷◌, slice_set, Option, Some, None}
use Rattle.zed_types.specs.declared.names.StatId.{StatId}
use Rattle.zed_types.specs.declared.stat_field.ThirdParameter.TheVariants as third
use Rattle.zed_types.specs.declared.stat_field.StatFields.{StatFields}
use Rattle.zed_types.specs.Stat.{stat_byte_index, stat_number_index}
use Rattle.zed_types.specs.declared.stat_field.StatSetting.{StatSetting}
use Rattle.zed_types.specs.declared.stat_field.StatSetting.TheVariants.{Byte, Number, P3, Follower, Leader, Text}
use Rattle.zed_edit.specs.declared.plain.Stat.{Stat}

-- a number of a stat is overwritten: one that a new stat is given, or its position
abbrev pub with_number : Option ℕ → ℤ → Stat → Stat
with_number (Some i) n s = record s { fields = record s.fields { numbers = slice_set s.fields.numbers i n } }
with_number None n s = record s { position = n }

-- the register of a setting is overwritten
abbrev pub set_stat : StatSetting → Stat → Stat
set_stat (Byte f n) s = record s { fields = record s.fields { bytes = slice_set s.fields.bytes (stat_byte_index f) n } }
set_stat (Number f n) s = with_number (stat_number_index f) n s
set_stat (P3 p) s = record s { fields = record s.fields { p3 = p } }
set_stat (Follower o) s = record s { follower = o }
set_stat (Leader o) s = record s { leader = o }
set_stat (Text o) s = record s { fields = record s.fields { text = o } }

-- a new stat: position 0, no follower and no leader
abbrev pub new_stat : StatId → Bool → StatFields → Stat
new_stat id is_player fields = record {
  id = id;
  is_player = is_player;
  fields = fields;
  position = pos 0;
  follower = None;
  leader = None;
  removed = false;
}

-- the fields of the player of a new board
abbrev pub player_fields : StatFields
player_fields = record {
  bytes = 30 ∷ 12 ∷ 0 ∷ 0 ∷ 0 ∷ 0 ∷ [];
  numbers = pos 0 ∷ pos 0 ∷ pos 1 ∷ [];
  p3 = third.Byte 0;
  text = None;
}

-- marked removed, but for a player; it keeps its name and its registers
abbrev pub remove_stat : Stat → Stat
remove_stat s = record s { removed = not s.is_player }
