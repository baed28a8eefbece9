-- Boards and stats by their names, in four worlds.
use Rattle.std.specs.Prelude.{◌≡◌, Option, Some, None, option_map}
use Rattle.zed_types.specs.declared.names.BoardId.{BoardId}
use Rattle.zed_types.specs.declared.names.StatId.{StatId}
use Rattle.zed_edit.specs.declared.plain.Board.{Board}
use Rattle.zed_edit.specs.declared.plain.Stat.{Stat}
use Rattle.zed_stats.specs.declared.stat.LiveStat.{LiveStat}
use Rattle.zed_laws.specs.Winners.{find_board, find_stat}
use Rattle.zed_live.specs.declared.board.LiveBoard.{LiveBoard}
use Rattle.zed_live.specs.Board.{shown_board}
use Rattle.zed_live.specs.Stat.{shown_stat}
use Rattle.zed_join.specs.declared.sides.Views.{Views}

-- a live board of this name as one author sees it, if there is one
abbrev pub shown_as : BoardId → Option LiveBoard → Option Board
shown_as b o = option_map (shown_board b) o

-- a live stat of this name as one author sees it, if there is one
abbrev pub shown_stat_as : StatId → Option LiveStat → Option Stat
shown_stat_as x o = option_map (shown_stat x) o

-- the stat of a name on a board, if there is one
abbrev pub stat_on : StatId → Option Board → Option Stat
stat_on x None = None
stat_on x (Some b) = find_stat x b.stats

-- a board in each of four worlds, if it was made there
pub record Boards : Type 0 where
  pub base : Option LiveBoard
  pub mine : Option LiveBoard
  pub theirs : Option LiveBoard
  pub union : Option LiveBoard

-- these are the board of a name
pub record IsBoard (w : Views) (b : BoardId) (x : Boards) : Type 0 where
  pub base : shown_as b x.base ≡ find_board b w.base.boards
  pub mine : shown_as b x.mine ≡ find_board b w.mine.boards
  pub theirs : shown_as b x.theirs ≡ find_board b w.theirs.boards
  pub union : shown_as b x.union ≡ find_board b w.union.boards

-- a stat in each of four worlds, if it was made there
pub record Stats : Type 0 where
  pub base : Option LiveStat
  pub mine : Option LiveStat
  pub theirs : Option LiveStat
  pub union : Option LiveStat

-- these are the stat of a name on the board of a name
pub record IsStat (w : Views) (b : BoardId) (s : StatId) (x : Stats) : Type 0 where
  pub base : shown_stat_as s x.base ≡ stat_on s (find_board b w.base.boards)
  pub mine : shown_stat_as s x.mine ≡ stat_on s (find_board b w.mine.boards)
  pub theirs : shown_stat_as s x.theirs ≡ stat_on s (find_board b w.theirs.boards)
  pub union : shown_stat_as s x.union ≡ stat_on s (find_board b w.union.boards)
