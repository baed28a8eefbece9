-- The stats of a live board: those that it is made with, what an edit does to them, and what edits leave of them.
use Rattle.std.specs.Prelude.{◌≡◌, Bool, true, false, List, [], ◌∷◌, map, Option, Some, None}
use Rattle.std.specs.List.{list_any}
use Rattle.zed_types.specs.declared.stamp.Stamp.{Stamp}
use Rattle.zed_types.specs.declared.names.BoardId.{BoardId}
use Rattle.zed_types.specs.declared.names.StatId.{StatId}
use Rattle.zed_types.specs.Names.{stat_of, same_board, NamesRise}
use Rattle.zed_stats.specs.ByName as names
use Rattle.zed_op.specs.declared.op.Op.{Op}
use Rattle.zed_op.specs.declared.op.Op.TheVariants.{StatAdd, StatRemove, SetStat}
use Rattle.zed_op.specs.declared.op.Edit.{Edit}
use Rattle.zed_edit.specs.declared.plain.Stat.{Stat}
use Rattle.zed_edit.specs.Stat.{new_stat as plain_stat}
use Rattle.zed_laws.specs.Homes.{made_home}
use Rattle.zed_stats.specs.declared.stat.LiveStat.{LiveStat}
use Rattle.zed_stats.specs.Fields.{new_stat, write, remove}
use Rattle.zed_stats.specs.Stats.{stat_name, add, change}
use Rattle.zed_live.specs.Stat.{values_of, StatShows, shown_stat}

-- stats, each under its name
abbrev pub Entries : Type 0
Entries = List (StatId × LiveStat)

-- the stat of a name, if it is there
abbrev pub stat_in : StatId → Entries → Option LiveStat
stat_in x ts = names.under stat_name x ts

-- a stat as the edit that makes it leaves it is added at its place
abbrev pub add_made : Stat → Entries → Entries
add_made x ts = add x.id (new_stat x.is_player x.id.name.stamp (values_of x)) ts

-- stats are added one after the other
abbrev pub add_each : List Stat → Entries → Entries
add_each [] ts = ts
add_each (x ∷ xs) ts = add_each xs (add_made x ts)

-- the stats of a board after an edit, whenever it comes: one is added, or the named one changed
abbrev pub stats_after : Stamp → Op → Entries → Entries
stats_after s (StatAdd b fields) ts = add_made (plain_stat (stat_of s 0) false fields) ts
stats_after s (StatRemove x) ts = change x remove ts
stats_after s (SetStat x setting) ts = change x (write s setting) ts
stats_after s _ ts = ts

-- whether a board is this one
abbrev pub is_board : BoardId → Option BoardId → Bool
is_board b None = false
is_board b (Some c) = same_board c b

-- whether an edit puts a stat on a board
abbrev pub puts : StatId → BoardId → Edit → Bool
puts x b e = is_board b (made_home x e.stamp e.op)

-- what edits leave of a stat on a board: the stat that one of them puts there, with its latest writes, or nothing where none does
abbrev pub IsLeftOn : BoardId → List Edit → StatId → Option LiveStat → Type 0
IsLeftOn b es x None = list_any (puts x b) es ≡ false
IsLeftOn b es x (Some t) = (list_any (puts x b) es ≡ true) × StatShows x es t

-- the stats of a board in the order of their names, under each name what these edits left there
pub record StatsShow (b : BoardId) (es : List Edit) (ts : Entries) : Type 0 where
  pub rise : NamesRise (λ t. (t.0).name) ts
  pub each : (x : StatId) → IsLeftOn b es x (stat_in x ts)

-- the stats of a board as one author sees them
abbrev pub shown_stats : Entries → List Stat
shown_stats ts = map (λ t. shown_stat t.0 t.1) ts
