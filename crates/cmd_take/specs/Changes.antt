-- What edits change of the boards that a base shows.
use Rattle.std.specs.Prelude.{ℕ, ◌+◌, ◌-◌, ◌*◌, ◌/◌, nat_lt, Bool, true, false, ◌&&◌, ◌||◌, not, if◌then◌else◌, List, length, take, filter, count_by, sum_by, Option, Some, None}
use Rattle.std.specs.List.{list_any}
use Rattle.zed_types.specs.declared.names.BoardId.{BoardId}
use Rattle.zed_types.specs.declared.names.StatId.{StatId}
use Rattle.zed_types.specs.declared.names.TextId.{TextId}
use Rattle.zed_types.specs.declared.tile.Rectangle.{Rectangle}
use Rattle.zed_types.specs.declared.stat_field.StatSetting.{StatSetting}
use Rattle.zed_types.specs.declared.stat_field.StatSetting.TheVariants.{Text}
use Rattle.zed_types.specs.Names.{same_board, same_stat, same_text}
use Rattle.zed_op.specs.declared.op.Op.{Op}
use Rattle.zed_op.specs.declared.op.Op.TheVariants.{SetHeader, BoardRemove, SetBoard, SetCells, StatAdd, StatRemove, SetStat, TextInsert, TextDelete}
use Rattle.zed_op.specs.declared.op.Edit.{Edit}
use Rattle.zed_edit.specs.declared.plain.Board.{Board}
use Rattle.zed_edit.specs.declared.plain.Plain.{Plain}
use Rattle.zed_edit.specs.declared.plain.Stat.{Stat}
use Rattle.zed_edit.specs.Numbers.{alive_boards}
use Rattle.cmd_take.specs.declared.changes.Counts.{Counts}
use Rattle.cmd_take.specs.declared.opening.Forcing.{Forcing}
use Rattle.cmd_take.specs.declared.opening.Forcing.TheVariants.{Careful, Forced}

-- the boards of a world by their numbers; it has 101 at most
abbrev pub world_boards : Plain → List Board
world_boards p = take 101 (alive_boards p)

-- ---- boards that go

-- how many boards an op removes
abbrev pub boards_removed : Op → ℕ
boards_removed (BoardRemove b) = 1
boards_removed _ = 0

-- how many edits remove
abbrev pub removals : List Edit → ℕ
removals es = sum_by (λ e. boards_removed e.op) es

-- whether so many boards that go are more than half of so many, the title beside, and that isn't forced
abbrev pub are_too_many : Forcing → ℕ → ℕ → Bool
are_too_many Careful boards removed = nat_lt ((boards - 1) / 2) removed
are_too_many Forced boards removed = false

-- whether an op removes this board
abbrev pub removes : BoardId → Op → Bool
removes b (BoardRemove c) = same_board c b
removes b _ = false

-- ---- the header

-- how many registers of the header an op sets
abbrev pub registers_set : Op → ℕ
registers_set (SetHeader setting) = 1
registers_set _ = 0

-- how many edits set
abbrev pub registers : List Edit → ℕ
registers es = sum_by (λ e. registers_set e.op) es

-- ---- boards that stay

-- how many cells a rectangle has
abbrev pub cells_of : Rectangle → ℕ
cells_of r = (r.right - r.left + 1) * (r.bottom - r.top + 1)

-- how many cells of a board an op sets
abbrev pub cells_set : BoardId → Op → ℕ
cells_set b (SetCells c r tile) = if same_board c b then cells_of r else 0
cells_set b _ = 0

-- whether an op sets a property of a board
abbrev pub sets_property : BoardId → Op → Bool
sets_property b (SetBoard c setting) = same_board c b
sets_property b _ = false

-- whether it adds a stat to it
abbrev pub adds_stat : BoardId → Op → Bool
adds_stat b (StatAdd c fields) = same_board c b
adds_stat b _ = false

-- whether a setting of a stat gives it another text
abbrev pub gives_text : StatSetting → Bool
gives_text (Text t) = true
gives_text _ = false

-- whether an op removes a stat, or sets a field of it beside its text
abbrev pub changes_stat : StatId → Op → Bool
changes_stat s (StatRemove x) = same_stat x s
changes_stat s (SetStat x setting) = same_stat x s && not (gives_text setting)
changes_stat s _ = false

-- whether a text is the one that a stat has
abbrev pub is_its_text : Option TextId → TextId → Bool
is_its_text None t = false
is_its_text (Some own) t = same_text own t

-- whether an op changes the program of a stat with this text: the text, or which one it has
abbrev pub changes_program : StatId → Option TextId → Op → Bool
changes_program s text (SetStat x setting) = same_stat x s && gives_text setting
changes_program s text (TextInsert t after bytes) = is_its_text text t
changes_program s text (TextDelete t range) = is_its_text text t
changes_program s text _ = false

-- whether edits change a stat
unfoldable pub is_changed : List Edit → Stat → Bool
is_changed es s = list_any (λ e. changes_stat s.id e.op) es

-- whether they change its program
unfoldable pub is_reprogrammed : List Edit → Stat → Bool
is_reprogrammed es s = list_any (λ e. changes_program s.id s.fields.text e.op) es

-- what edits change of a board: cells, properties, stats, and programs of stats that it has
unfoldable pub counts : Board → List Edit → Counts
counts b es = record {
  cells = sum_by (λ e. cells_set b.id e.op) es;
  properties = count_by (λ e. sets_property b.id e.op) es;
  stats = count_by (λ e. adds_stat b.id e.op) es + length (filter (is_changed es) b.stats);
  programs = length (filter (is_reprogrammed es) b.stats);
}

-- whether that is more than cells
abbrev pub is_more : Counts → Bool
is_more c = (nat_lt 0 c.properties || nat_lt 0 c.stats) || nat_lt 0 c.programs
