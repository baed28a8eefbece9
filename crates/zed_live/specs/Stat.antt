-- A live stat: its fields, each with its latest write, and its mark.
use Rattle.std.specs.Prelude.{◌≡◌, Bool, true, false, not, ◌&&◌, ◌||◌, List, ◌∷◌, ◌++◌, is_some, slice_index_or, Option, Some, option_map}
use Rattle.std.specs.List.{AllByRecursion, list_any}
use Rattle.zed_types.specs.declared.stamp.Stamp.{Stamp}
use Rattle.zed_types.specs.declared.written.Written.{Written}
use Rattle.zed_types.specs.declared.names.StatId.{StatId}
use Rattle.zed_types.specs.declared.stat_field.StatByte.{StatByte}
use Rattle.zed_types.specs.declared.stat_field.StatNumber.{StatNumber}
use Rattle.zed_types.specs.Names.{same_stat}
use Rattle.zed_types.specs.Stat.{stat_byte_index, stat_number_index}
use Rattle.zed_types.specs.Register.{written_at}
use Rattle.zed_op.specs.declared.op.Op.{Op}
use Rattle.zed_op.specs.declared.op.Op.TheVariants.{StatRemove, SetStat}
use Rattle.zed_op.specs.declared.op.Edit.{Edit}
use Rattle.zed_op.specs.Set.{IsRising, AllFit}
use Rattle.zed_op.specs.Sizes.{HaveSizes}
use Rattle.zed_edit.specs.declared.plain.Stat.{Stat}
use Rattle.zed_edit.specs.Document.{all_stats}
use Rattle.zed_edit.specs.Replay.{replay, taken}
use Rattle.zed_laws.specs.Fields.{stat_byte, stat_number, third_parameter, follower, leader, stat_text, is_player}
use Rattle.zed_laws.specs.Winners.{of_stat, find_stat, made_stats, changes_stat}
use Rattle.zed_laws.specs.Whole.{IsWholeStat}
use Rattle.zed_stats.specs.declared.field.StatField.{StatField}
use Rattle.zed_stats.specs.declared.field.StatField.TheVariants.{Byte, Number, P3, Follower, Leader, Text}
use Rattle.zed_stats.specs.declared.stat.StatValues.{StatValues}
use Rattle.zed_stats.specs.declared.stat.LiveStat.{LiveStat}
use Rattle.zed_stats.specs.Fields.{number_at, stamp_of, write, new_stat, remove}
use Rattle.zed_stats.specs.Arrivals.{IsWhole}
use Rattle.zed_live.specs.Shows.{latest_in}

-- the values of the fields of a stat
abbrev pub values_of : Stat → StatValues
values_of x = record { fields = x.fields; position = x.position; follower = x.follower; leader = x.leader }

-- a stat after an edit of it, whenever it comes
abbrev pub stat_after : Stamp → Op → LiveStat → LiveStat
stat_after s (SetStat x setting) t = write s setting t
stat_after s (StatRemove x) t = remove t
stat_after s _ t = t

-- whether an op removes a stat
abbrev pub removes : StatId → Op → Bool
removes x (StatRemove y) = same_stat y x
removes x _ = false

-- a field's latest write, which has this value
abbrev pub held_as : {V : Type 0} → StatField → V → LiveStat → Option (Written V)
held_as f v s = Some (written_at (stamp_of f s) v)

-- each field of a stat has the latest write of these edits, and it is removed where one of them removes it and it is no player
pub record StatShows (x : StatId) (es : List Edit) (s : LiveStat) : Type 0 where
  pub whole : IsWhole s
  pub bytes : (f : StatByte)
      → held_as (Byte f) (slice_index_or s.values.fields.bytes (stat_byte_index f) 0) s ≡ latest_in (of_stat x (stat_byte f)) es
  pub numbers : (f : StatNumber)
      → held_as (Number f) (number_at (stat_number_index f) s.values) s ≡ latest_in (of_stat x (stat_number f)) es
  pub p3 : held_as P3 s.values.fields.p3 s ≡ latest_in (of_stat x third_parameter) es
  pub follower : held_as Follower s.values.follower s ≡ latest_in (of_stat x follower) es
  pub leader : held_as Leader s.values.leader s ≡ latest_in (of_stat x leader) es
  pub text : held_as Text s.values.fields.text s ≡ latest_in (of_stat x stat_text) es
  pub player : Some s.is_player ≡ option_map (λ w. w.value) (latest_in (of_stat x is_player) es)
  pub removed : s.removed ≡ (not s.is_player && list_any (λ e. removes x e.op) es)

-- whether an edit makes a stat, or changes it
abbrev pub touches_stat : StatId → Edit → Bool
touches_stat x e = is_some (find_stat x (made_stats e.stamp e.op)) || changes_stat x e.op

-- an edit that makes a stat writes all its fields, however late it comes
abbrev pub StatIsMade : Type 0
StatIsMade =
    (x : StatId) (e : Edit) (made : Stat) (low high : List Edit)
    → IsRising (low ++ e ∷ high)
    → find_stat x (made_stats e.stamp e.op) ≡ Some made
    → IsWholeStat made
    → AllByRecursion (λ f. touches_stat x f ≡ false) (low ++ high)
    → StatShows x (low ++ e ∷ high) (new_stat made.is_player e.stamp (values_of made))

-- an edit of a stat that comes late is put in as if it had come at its place
abbrev pub StatTakes : Type 0
StatTakes =
    (x : StatId) (e : Edit) (low high : List Edit) (s : LiveStat)
    → IsRising (low ++ e ∷ high)
    → changes_stat x e.op ≡ true
    → StatShows x (low ++ high) s
    → StatShows x (low ++ e ∷ high) (stat_after e.stamp e.op s)

-- an edit that neither makes a stat nor changes it leaves it
abbrev pub StatPassesOthers : Type 0
StatPassesOthers =
    (x : StatId) (e : Edit) (low high : List Edit) (s : LiveStat)
    → IsRising (low ++ e ∷ high)
    → touches_stat x e ≡ false
    → StatShows x (low ++ high) s
    → StatShows x (low ++ e ∷ high) s

-- a stat as one author sees it
abbrev pub shown_stat : StatId → LiveStat → Stat
shown_stat x s = record {
  id = x;
  is_player = s.is_player;
  fields = s.values.fields;
  position = s.values.position;
  follower = s.values.follower;
  leader = s.values.leader;
  removed = s.removed;
}

-- a stat that has the latest writes of the edits taken shows the one of the replay
abbrev pub ReplayedStatIsShown : Type 0
ReplayedStatIsShown =
    (x : StatId) (es : List Edit) (s : LiveStat) (stat : Stat)
    → IsRising es
    → AllFit es
    → HaveSizes es
    → find_stat x (all_stats (replay es)) ≡ Some stat
    → StatShows x (taken es) s
    → shown_stat x s ≡ stat
