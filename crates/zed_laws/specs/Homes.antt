-- The board that a stat is on: its making alone says so.
use Rattle.std.specs.Prelude.{Bool, if◌then◌else◌, find, Option, Some, None, option_map}
use Rattle.std.specs.List.{list_any}
use Rattle.zed_types.specs.declared.stamp.Stamp.{Stamp}
use Rattle.zed_types.specs.declared.names.BoardId.{BoardId}
use Rattle.zed_types.specs.declared.names.StatId.{StatId}
use Rattle.zed_types.specs.Names.{stat_of, same_stat}
use Rattle.zed_op.specs.declared.op.Op.{Op}
use Rattle.zed_op.specs.declared.op.Op.TheVariants.{StatAdd}
use Rattle.zed_edit.specs.declared.plain.Board.{Board}
use Rattle.zed_laws.specs.Winners.{Register, made_boards}

-- whether a stat is on a board
abbrev pub is_on : StatId → Board → Bool
is_on x b = list_any (λ y. same_stat y.id x) b.stats

-- the board that an edit puts a stat on
abbrev pub made_home : StatId → Stamp → Op → Option BoardId
made_home x s (StatAdd b fields) = if same_stat (stat_of s 0) x then Some b else None
made_home x s op = option_map (λ b. b.id) (find (is_on x) (made_boards s op))

-- the board that a stat is on
abbrev pub home : StatId → Register BoardId
home x = record {
  read = λ p. option_map (λ b. b.id) (find (is_on x) p.boards);
  writes = λ e. made_home x e.stamp e.op;
}
