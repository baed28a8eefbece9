-- How boards are kept, and with which of them an index lists each stat.
use Rattle.std.specs.Prelude.{◌≡◌, Bool, true, false, List, [], ◌∷◌, Option, Some, None, if◌then◌else◌, IsSorted}
use Rattle.std.specs.BTreeMap.{is_at}
use Rattle.std.specs.List.{AllByRecursion, list_any}
use Rattle.std.specs.Map.{keys_of}
use Rattle.std.specs.Ordering.{ordering_then}
use Rattle.std.specs.declared.cmp.Ordering.{Ordering}
use Rattle.zed_types.specs.declared.stamp.Stamp.{Stamp}
use Rattle.zed_types.specs.declared.names.BoardId.{BoardId}
use Rattle.zed_types.specs.declared.names.StatId.{StatId}
use Rattle.zed_types.specs.Names.{stat_of, same_stat, NamesRise}
use Rattle.zed_op.specs.declared.op.Op.{Op}
use Rattle.zed_op.specs.declared.op.Op.TheVariants.{StatAdd}
use Rattle.zed_edit.specs.declared.plain.Board.{Board}
use Rattle.zed_edit.specs.declared.plain.Stat.{Stat}
use Rattle.zed_stats.specs.Stats.{has, stat_cmp}
use Rattle.zed_live.specs.declared.board.LiveBoard.{LiveBoard}
use Rattle.zed_live.specs.Boards.{Boards, board_cmp}

-- stats, each with a board
abbrev pub Homes : Type 0
Homes = List (StatId × BoardId)

-- the order of homes: by stat, and then by board
abbrev pub home_cmp : StatId × BoardId → StatId × BoardId → Ordering
home_cmp a b = ordering_then (stat_cmp a.0 b.0) (board_cmp a.1 b.1)

-- whether a stat is listed with a board
abbrev pub is_listed : StatId → BoardId → Homes → Bool
is_listed x b homes = list_any (is_at (home_cmp (x, b))) homes

-- the second parts of the pairs with this first part
abbrev pub listed : {A B : Type 0} → (A → A → Bool) → A → List (A × B) → List B
listed same x [] = []
listed same x (w ∷ ws) = if same w.0 x then w.1 ∷ listed same x ws else listed same x ws

-- the boards that a stat is listed with
abbrev pub boards_with : StatId → Homes → List BoardId
boards_with x homes = listed same_stat x homes

-- a stat, if one is told, is listed with this board alone
abbrev pub IsOnly : Option (StatId × BoardId) → Homes → Type 0
IsOnly None homes = Unit {0}
IsOnly (Some w) homes = boards_with w.0 homes ≡ w.1 ∷ []

-- what was listed still is
pub record StayListed (old new : Homes) : Type 0 where
  pub each : (x : StatId) (b : BoardId) → is_listed x b old ≡ true → is_listed x b new ≡ true

-- each of the stats that a board is made with is listed with it
abbrev pub AreOn : BoardId → List Stat → Homes → Type 0
AreOn b xs homes = AllByRecursion (λ x. is_listed x.id b homes ≡ true) xs

-- each stat that these boards are made with is listed with its board
abbrev pub AreMadeOn : List Board → Homes → Type 0
AreMadeOn bs homes = AllByRecursion (λ b. AreOn b.id b.stats homes) bs

-- whether an edit adds a stat
abbrev pub adds_stat : StatId → Stamp → Op → Bool
adds_stat x s (StatAdd b fields) = same_stat x (stat_of s 0)
adds_stat x s _ = false

-- the stat that an edit adds is listed with a board
abbrev pub IsAddedOn : BoardId → Stamp → Op → Homes → Type 0
IsAddedOn b s op homes = (x : StatId) → adds_stat x s op ≡ true → is_listed x b homes ≡ true

-- each stat of a board is listed with it
abbrev pub StatsAreListed : Homes → BoardId × LiveBoard → Type 0
StatsAreListed homes y = (x : StatId) → has x (y.1).stats ≡ true → is_listed x y.0 homes ≡ true

-- boards in the order of their names, each of whose stats is listed with it; more may be listed than is there
pub record AreKept (ys : Boards) (homes : Homes) : Type 0 where
  pub sorted : IsSorted board_cmp (keys_of ys)
  pub rise : NamesRise (λ y. (y.0).name) ys
  pub listed : AllByRecursion (StatsAreListed homes) ys
