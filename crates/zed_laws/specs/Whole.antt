-- Documents in which each table of registers has all its places, and no player is removed.
use Rattle.std.specs.Prelude.{◌≡◌, true, false, List, length}
use Rattle.std.specs.List.{AllByRecursion}
use Rattle.zed_types.specs.Limits.{table_tiles}
use Rattle.zed_op.specs.declared.op.Edit.{Edit}
use Rattle.zed_op.specs.Sizes.{HaveSizes}
use Rattle.zed_edit.specs.declared.plain.Header.{Header}
use Rattle.zed_edit.specs.declared.plain.Board.{Board}
use Rattle.zed_edit.specs.declared.plain.Stat.{Stat}
use Rattle.zed_edit.specs.declared.plain.Plain.{Plain}
use Rattle.zed_edit.specs.Replay.{replay}

-- nine numbers, seven keys and ten flags
pub record IsWholeHeader (h : Header) : Type 0 where
  pub numbers : length h.numbers ≡ 9
  pub keys : length h.keys ≡ 7
  pub flags : length h.flags ≡ 10

-- six bytes, three numbers beside the position, and a player isn't removed
pub record IsWholeStat (s : Stat) : Type 0 where
  pub bytes : length s.fields.bytes ≡ 6
  pub numbers : length s.fields.numbers ≡ 3
  pub stays : s.is_player ≡ true → s.removed ≡ false

-- a whole table of tiles, three bytes, two flags, four exits and two texts
pub record IsWholeBoard (b : Board) : Type 0 where
  pub tiles : length b.tiles ≡ table_tiles
  pub bytes : length b.properties.bytes ≡ 3
  pub flags : length b.properties.flags ≡ 2
  pub exits : length b.properties.exits ≡ 4
  pub texts : length b.properties.texts ≡ 2
  pub stats : AllByRecursion IsWholeStat b.stats

-- the header, each board and each stat are whole
pub record IsWhole (p : Plain) : Type 0 where
  pub header : IsWholeHeader p.header
  pub boards : AllByRecursion IsWholeBoard p.boards

-- what edits make whose values have the sizes of their fields is whole
abbrev pub ReplayIsWhole : Type 0
ReplayIsWhole = (es : List Edit) → HaveSizes es → IsWhole (replay es)
