-- The registers of a stat, each with the stamp of its write.
use Rattle.std.specs.Prelude.{ℕ, ℤ, pos, Bool, false, not, if◌then◌else◌, replicate, slice_set, slice_index_or, Option, Some, None}
use Rattle.zed_types.specs.declared.stamp.Stamp.{Stamp}
use Rattle.zed_types.specs.declared.stat_field.StatSetting.{StatSetting}
use Rattle.zed_types.specs.declared.stat_field.StatSetting.TheVariants as setting
use Rattle.zed_types.specs.Stamp.{before}
use Rattle.zed_types.specs.Stat.{stat_byte_index, stat_byte_field, stat_number_index, stat_number_field}
use Rattle.zed_stats.specs.declared.field.StatField.{StatField}
use Rattle.zed_stats.specs.declared.field.StatField.TheVariants.{Byte, Number, P3, Follower, Leader, Text}
use Rattle.zed_stats.specs.declared.stat.StatValues.{StatValues}
use Rattle.zed_stats.specs.declared.stat.LiveStat.{LiveStat}

-- the field that a setting is of
abbrev pub field_of : StatSetting → StatField
field_of (setting.Byte f n) = Byte f
field_of (setting.Number f n) = Number f
field_of (setting.P3 p) = P3
field_of (setting.Follower o) = Follower
field_of (setting.Leader o) = Leader
field_of (setting.Text o) = Text

-- the number of a field, which is its number in an edit file
abbrev pub field_number : StatField → ℕ
field_number (Byte f) = stat_byte_field f
field_number (Number f) = stat_number_field f
field_number P3 = 8
field_number Follower = 9
field_number Leader = 10
field_number Text = 13

-- a number of a stat: one that a new stat is given, or its position
abbrev pub number_at : Option ℕ → StatValues → ℤ
number_at (Some i) v = slice_index_or v.fields.numbers i (pos 0)
number_at None v = v.position

-- the value of a field
abbrev pub value_of : StatField → StatValues → StatSetting
value_of (Byte f) v = setting.Byte f (slice_index_or v.fields.bytes (stat_byte_index f) 0)
value_of (Number f) v = setting.Number f (number_at (stat_number_index f) v)
value_of P3 v = setting.P3 v.fields.p3
value_of Follower v = setting.Follower v.follower
value_of Leader v = setting.Leader v.leader
value_of Text v = setting.Text v.fields.text

-- a number of a stat is overwritten: one that a new stat is given, or its position
abbrev pub with_number : Option ℕ → ℤ → StatValues → StatValues
with_number (Some i) n v = record v { fields = record v.fields { numbers = slice_set v.fields.numbers i n } }
with_number None n v = record v { position = n }

-- the field of a setting is overwritten
abbrev pub with_setting : StatSetting → StatValues → StatValues
with_setting (setting.Byte f n) v = record v { fields = record v.fields { bytes = slice_set v.fields.bytes (stat_byte_index f) n } }
with_setting (setting.Number f n) v = with_number (stat_number_index f) n v
with_setting (setting.P3 p) v = record v { fields = record v.fields { p3 = p } }
with_setting (setting.Follower o) v = record v { follower = o }
with_setting (setting.Leader o) v = record v { leader = o }
with_setting (setting.Text o) v = record v { fields = record v.fields { text = o } }

-- the earliest of all stamps there can be
abbrev pub no_stamp : Stamp
no_stamp = record { time = 0; replica = 0 }

-- the stamp of the write that a field of a stat holds
abbrev pub stamp_of : StatField → LiveStat → Stamp
stamp_of f s = slice_index_or s.stamps (field_number f) no_stamp

-- a field takes a setting
abbrev pub overwrite : Stamp → StatSetting → LiveStat → LiveStat
overwrite at w s = record s { values = with_setting w s.values; stamps = slice_set s.stamps (field_number (field_of w)) at }

-- the field of a setting takes it, unless it holds a write with a stamp as late or later
abbrev pub write : Stamp → StatSetting → LiveStat → LiveStat
write at w s = if before (stamp_of (field_of w) s) at then overwrite at w s else s

-- a stat as it is when it is added, its fields written by the edit that adds it
abbrev pub new_stat : Bool → Stamp → StatValues → LiveStat
new_stat is_player at values = record { is_player = is_player; removed = false; values = values; stamps = replicate 14 at }

-- marked removed, but for a player; it keeps its fields, which go on taking writes
abbrev pub remove : LiveStat → LiveStat
remove s = record s { removed = not s.is_player }
