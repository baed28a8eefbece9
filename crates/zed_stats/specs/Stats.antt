-- The stats of a board in the order of their names, removed ones too.
use Rattle.std.specs.Prelude.{ℕ, Bool, not, ◌&&◌, List, ◌++◌, is_some, Option}
use Rattle.std.specs.declared.cmp.Ordering.{Ordering}
use Rattle.std.specs.List.{filter, position}
use Rattle.zed_types.specs.declared.names.Name.{Name}
use Rattle.zed_types.specs.declared.names.StatId.{StatId}
use Rattle.zed_types.specs.Names.{same_stat}
use Rattle.zed_stats.specs.ByName as names
use Rattle.zed_stats.specs.declared.stat.LiveStat.{LiveStat}

-- what names a stat
abbrev pub stat_name : StatId → Name
stat_name x = x.name

-- the order of names: by stamp, and then by index
abbrev pub stat_cmp : StatId → StatId → Ordering
stat_cmp a b = names.key_cmp stat_name a b

-- whether a stat of this name was added
abbrev pub has : StatId → List (StatId × LiveStat) → Bool
has id es = is_some (names.under stat_name id es)

-- a stat is added at its place, unless one of its name was added before
abbrev pub add : StatId → LiveStat → List (StatId × LiveStat) → List (StatId × LiveStat)
add id s es = names.add stat_name id s es

-- the stat of a name, changed
abbrev pub change : StatId → (LiveStat → LiveStat) → List (StatId × LiveStat) → List (StatId × LiveStat)
change id f es = names.change stat_name id f es

-- whether a stat is a player, and not removed
abbrev pub is_alive_player : StatId × LiveStat → Bool
is_alive_player e = (e.1).is_player && not (e.1).removed

-- whether a stat is no player, and not removed
abbrev pub is_alive_other : StatId × LiveStat → Bool
is_alive_other e = not (e.1).is_player && not (e.1).removed

-- the stats that are not removed, the player first
abbrev pub numbered : List (StatId × LiveStat) → List (StatId × LiveStat)
numbered es = filter is_alive_player es ++ filter is_alive_other es

-- the number of a stat: its place among those not removed, the player first; none for a removed one
abbrev pub number_of : StatId → List (StatId × LiveStat) → Option ℕ
number_of id es = position (λ e. same_stat e.0 id) (numbered es)
