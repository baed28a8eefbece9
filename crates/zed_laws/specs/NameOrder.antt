-- The order in which made things stand: that of their names.
use Rattle.std.specs.Prelude.{List}
use Rattle.std.specs.List.{AllByRecursion}
use Rattle.zed_types.specs.Names.{NamesRise}
use Rattle.zed_op.specs.declared.op.Edit.{Edit}
use Rattle.zed_op.specs.Set.{IsRising}
use Rattle.zed_edit.specs.declared.plain.Board.{Board}
use Rattle.zed_edit.specs.declared.plain.Plain.{Plain}
use Rattle.zed_edit.specs.Numbers.{AreApart, boards_there}
use Rattle.zed_edit.specs.Replay.{replay}

-- the stats of a board stand in the order of their names
abbrev pub StatsRise : Board → Type 0
StatsRise b = NamesRise (λ s. s.id.name) b.stats

-- and so do the texts, the boards, and the stats of each board
pub record IsOrdered (p : Plain) : Type 0 where
  pub texts : NamesRise (λ t. t.id.name) p.texts
  pub boards : NamesRise (λ b. b.id.name) p.boards
  pub stats : AllByRecursion StatsRise p.boards

-- what edits make in rising stamp order stands in the order of its names
abbrev pub ReplayIsOrdered : Type 0
ReplayIsOrdered = (es : List Edit) → IsRising es → IsOrdered (replay es)

-- where boards stand in the order of their names, a name is that of one of those not removed at most
abbrev pub BoardsThereAreApart : Type 0
BoardsThereAreApart = (p : Plain) → IsOrdered p → AreApart (boards_there p)
