-- The numbers of boards and stats: how many of those that are not removed come before them.
use Rattle.std.specs.Prelude.{◌≤◌, ℕ, ◌+◌, ◌==◌, nat_lt, Bool, ◌&&◌, ◌||◌, not, if◌then◌else◌, List, [], length, filter, filter_map, find, position, count_by, Option, Some, None, slice_get, option_map}
use Rattle.std.specs.List.{range_with_len}
use Rattle.std.specs.Ordering.{nat_cmp, ordering_then}
use Rattle.std.specs.declared.cmp.Ordering.{Ordering}
use Rattle.zed_types.specs.declared.names.BoardId.{BoardId}
use Rattle.zed_types.specs.declared.names.StatId.{StatId}
use Rattle.zed_types.specs.Names.{is_earlier, name_cmp, same_board, same_stat, title}
use Rattle.zed_edit.specs.declared.numbers.Standing.{Standing}
use Rattle.zed_edit.specs.declared.plain.Board.{Board}
use Rattle.zed_edit.specs.declared.plain.Stat.{Stat}
use Rattle.zed_edit.specs.declared.plain.Plain.{Plain}

-- where a board of a rank stands: the title first, whatever its rank, and each other behind the boards of lower ranks
abbrev pub standing_of : BoardId → ℕ → Standing
standing_of id rank = record { place = if same_board id title then 0 else rank + 1; board = id }

-- of two standings, the one of the lower place comes before the other, and at one place the one of the earlier name
abbrev pub stands_before : Standing → Standing → Bool
stands_before a b = nat_lt a.place b.place || (a.place == b.place && is_earlier a.board.name b.board.name)

-- the order of standings
abbrev pub standing_cmp : Standing → Standing → Ordering
standing_cmp a b = ordering_then (nat_cmp a.place b.place) (name_cmp a.board.name b.board.name)

-- where a board stands
abbrev pub standing : Board → Standing
standing b = standing_of b.id b.properties.rank

-- whether a board comes before another: the title before all, then by rank, and at one rank by name
abbrev pub comes_before : Board → Board → Bool
comes_before a b = stands_before (standing a) (standing b)

-- the boards that are not removed, in the order in which they were made
abbrev pub boards_there : Plain → List Board
boards_there p = filter (λ b. not b.removed) p.boards

-- how many of these boards come before a board
abbrev pub boards_before : List Board → Board → ℕ
boards_before bs b = count_by (λ x. comes_before x b) bs

-- the number of a board, if it is not removed: how many of those that are not removed come before it
abbrev pub board_number : Plain → BoardId → Option ℕ
board_number p id = option_map (boards_before (boards_there p)) (find (λ b. same_board b.id id) (boards_there p))

-- that of these boards before which just so many come
abbrev pub board_with : List Board → ℕ → Option Board
board_with bs n = find (λ b. boards_before bs b == n) bs

-- the board of a number
abbrev pub board_numbered : Plain → ℕ → Option BoardId
board_numbered p n = option_map (λ b. b.id) (board_with (boards_there p) n)

-- these boards by their numbers, from 0 on
abbrev pub by_number : List Board → List Board
by_number bs = filter_map (board_with bs) (range_with_len 0 (length bs))

-- the boards that are not removed, in the order of their numbers: the order in which a world has them
abbrev pub alive_boards : Plain → List Board
alive_boards p = by_number (boards_there p)

-- a name is that of one of these boards at most
abbrev pub AreApart : List Board → Type 0
AreApart bs = (id : BoardId) → count_by (λ b. same_board b.id id) bs ≤ 1

-- the stats of a board that are not removed: the player is made with its board, so it is first
abbrev pub alive_stats : Board → List Stat
alive_stats b = filter (λ s. not s.removed) b.stats

-- the stats of a board that are not removed; no board has none
abbrev pub stats_in : Option Board → List Stat
stats_in None = []
stats_in (Some b) = alive_stats b

-- the stats that are not removed of a board that was made, removed or not
abbrev pub alive_stats_of : Plain → BoardId → List Stat
alive_stats_of p board = stats_in (find (λ b. same_board b.id board) p.boards)

-- the number of a stat on a board, if it is there and not removed
abbrev pub stat_number : Board → StatId → Option ℕ
stat_number b id = position (λ s. same_stat s.id id) (alive_stats b)

-- the stat of a number on a board
abbrev pub stat_numbered : Plain → BoardId → ℕ → Option StatId
stat_numbered p board n = option_map (λ s. s.id) (slice_get (alive_stats_of p board) n)
