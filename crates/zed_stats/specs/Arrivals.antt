-- What the fields of a stat hold after writes, whatever their order.
use Rattle.std.specs.Prelude.{◌≡◌, ◌==◌, List, [], ◌∷◌, length, Some}
use Rattle.std.specs.List.{filter}
use Rattle.zed_types.specs.declared.written.Written.{Written}
use Rattle.zed_types.specs.declared.stat_field.StatSetting.{StatSetting}
use Rattle.zed_types.specs.Register.{latest_of}
use Rattle.zed_stats.specs.declared.field.StatField.{StatField}
use Rattle.zed_stats.specs.declared.stat.LiveStat.{LiveStat}
use Rattle.zed_stats.specs.Fields.{field_of, field_number, value_of, stamp_of, write}

-- settings, each with its stamp, in the order in which they come
abbrev pub write_all : List (Written StatSetting) → LiveStat → LiveStat
write_all [] s = s
write_all (w ∷ ws) s = write_all ws (write w.stamp w.value s)

-- the write that a field of a stat holds
abbrev pub held : StatField → LiveStat → Written StatSetting
held f s = record { stamp = stamp_of f s; value = value_of f s.values }

-- the writes of a field
abbrev pub writes_of : StatField → List (Written StatSetting) → List (Written StatSetting)
writes_of f ws = filter (λ w. field_number (field_of w.value) == field_number f) ws

-- a stat has all its fields
pub record IsWhole (s : LiveStat) : Type 0 where
  pub stamps : length s.stamps ≡ 14
  pub bytes : length s.values.fields.bytes ≡ 6
  pub numbers : length s.values.fields.numbers ≡ 3

-- each field holds the latest of what it had and the writes that came, in whatever order they came
abbrev pub FieldsHoldTheLatest : Type 0
FieldsHoldTheLatest =
    (f : StatField) (ws : List (Written StatSetting)) (s : LiveStat)
    → IsWhole s
    → Some (held f (write_all ws s)) ≡ latest_of (Some (held f s)) (writes_of f ws)
