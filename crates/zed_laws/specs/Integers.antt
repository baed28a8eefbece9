-- Signed numbers: those of every document that real edits make are of sixteen bits.
use Rattle.std.specs.Prelude.{List}
use Rattle.std.specs.List.{AllByRecursion}
use Rattle.zed_world.specs.Normal.{IsInteger}
use Rattle.zed_op.specs.declared.op.Edit.{Edit}
use Rattle.zed_op.specs.Sizes.{HaveSizes}
use Rattle.zed_edit.specs.declared.plain.Board.{Board}
use Rattle.zed_edit.specs.declared.plain.Stat.{Stat}
use Rattle.zed_edit.specs.declared.plain.Plain.{Plain}
use Rattle.zed_edit.specs.Replay.{replay}

-- each signed number of a stat is of sixteen bits
pub record StatHasIntegers (s : Stat) : Type 0 where
  pub numbers : AllByRecursion IsInteger s.fields.numbers
  pub position : IsInteger s.position

-- each signed number of a board and its stats is of sixteen bits
pub record BoardHasIntegers (b : Board) : Type 0 where
  pub time_limit : IsInteger b.properties.time_limit
  pub stats : AllByRecursion StatHasIntegers b.stats

-- each signed number of a document is of sixteen bits
pub record HasIntegers (p : Plain) : Type 0 where
  pub header : AllByRecursion IsInteger p.header.numbers
  pub boards : AllByRecursion BoardHasIntegers p.boards

-- what real edits make has only such numbers
abbrev pub ReplayKeepsIntegers : Type 0
ReplayKeepsIntegers = (es : List Edit) → HaveSizes es → HasIntegers (replay es)
