-- The registers that are overridden, in the order in which they are told.
use Rattle.std.specs.Prelude.{ℕ, zero, suc, ◌+◌, Bool, true, false, if◌then◌else◌, List, [], ◌∷◌, ◌++◌, filter, filter_map, flat_map, Option, Some, option_map, slice_index_or}
use Rattle.std.specs.List.{cons_option}
use Rattle.zed_types.specs.declared.header.FlagSlot.TheVariants as slot
use Rattle.zed_types.specs.declared.header.HeaderNumber.TheVariants as number
use Rattle.zed_types.specs.declared.header.KeyColour.TheVariants as key
use Rattle.zed_types.specs.declared.names.BoardId.{BoardId}
use Rattle.zed_types.specs.declared.names.StatId.{StatId}
use Rattle.zed_types.specs.declared.property.BoardFlag.TheVariants as flag
use Rattle.zed_types.specs.declared.property.Side.TheVariants as edge
use Rattle.zed_types.specs.declared.tile.Tile.{Tile}
use Rattle.zed_edit.specs.declared.plain.Board.{Board}
use Rattle.zed_edit.specs.declared.plain.Stat.{Stat}
use Rattle.zed_edit.specs.Board.{empty_tile}
use Rattle.zed_laws.specs.Winners.{find_board}
use Rattle.zed_sides.specs.declared.side.Overridden.{Overridden}
use Rattle.zed_sides.specs.Overridden.{overridden}
use Rattle.zed_compare.specs.declared.finding.Finding.{Finding}
use Rattle.zed_compare.specs.declared.finding.Finding.TheVariants as finding
use Rattle.zed_compare.specs.declared.registers.BoardRegister.{BoardRegister}
use Rattle.zed_compare.specs.declared.registers.BoardRegister.TheVariants as board
use Rattle.zed_compare.specs.declared.registers.StatRegister.{StatRegister}
use Rattle.zed_compare.specs.declared.registers.StatRegister.TheVariants as stat
use Rattle.zed_compare.specs.declared.registers.WorldRegister.{WorldRegister}
use Rattle.zed_compare.specs.declared.registers.WorldRegister.TheVariants as world
use Rattle.zed_join.specs.declared.sides.Views.{Views}
use Rattle.zed_compare.specs.Registers.{of_that_board, of_that_stat, of_world, same_tile}

-- the registers of the world
abbrev pub world_registers : List WorldRegister
world_registers =
    world.Number number.Ammo ∷ world.Number number.Gems ∷ world.Number number.Health ∷ world.Number number.Torches
    ∷ world.Number number.TorchTicks ∷ world.Number number.EnergizerTicks ∷ world.Number number.Score ∷ world.Number number.TimePassed
    ∷ world.Number number.Hundredths
    ∷ world.Key key.Blue ∷ world.Key key.Green ∷ world.Key key.Cyan ∷ world.Key key.Red ∷ world.Key key.Purple ∷ world.Key key.Yellow ∷ world.Key key.White
    ∷ world.Saved ∷ world.StartBoard ∷ world.Name
    ∷ world.Flag slot.First ∷ world.Flag slot.Second ∷ world.Flag slot.Third ∷ world.Flag slot.Fourth ∷ world.Flag slot.Fifth
    ∷ world.Flag slot.Sixth ∷ world.Flag slot.Seventh ∷ world.Flag slot.Eighth ∷ world.Flag slot.Ninth ∷ world.Flag slot.Tenth ∷ []

-- the properties of a board, but its exits
abbrev pub properties : List BoardRegister
properties =
    board.Name ∷ board.Message ∷ board.Rank ∷ board.MaxShots ∷ board.Flag flag.Dark ∷ board.Flag flag.ReEnter ∷ board.TimeLimit ∷ board.Start ∷ []

-- the exits of a board
abbrev pub exits : List BoardRegister
exits = board.Exit edge.North ∷ board.Exit edge.South ∷ board.Exit edge.West ∷ board.Exit edge.East ∷ []

-- the registers of a stat, but its text
abbrev pub stat_registers : List StatRegister
stat_registers =
    stat.Place ∷ stat.Step ∷ stat.Under ∷ stat.Cycle ∷ stat.Position ∷ stat.P1 ∷ stat.P2 ∷ stat.Follower ∷ stat.Leader ∷ stat.P3 ∷ []

-- a finding of a register of the world, if it is overridden
abbrev pub world_finding : Views → WorldRegister → Option Finding
world_finding w r = option_map (finding.World r) (of_world w r)

-- those of the world
abbrev pub world_findings : Views → List Finding
world_findings w = filter_map (world_finding w) world_registers

-- a finding of a register of a board, if it is overridden
abbrev pub board_finding : Views → BoardId → BoardRegister → Option Finding
board_finding w b r = option_map (finding.Board b r) (of_that_board w b r)

-- those of some registers of a board
abbrev pub board_findings : Views → BoardId → List BoardRegister → List Finding
board_findings w b rs = filter_map (board_finding w b) rs

-- what is overridden of cell i, by four tables
abbrev pub cell_of : List Tile → List Tile → List Tile → List Tile → ℕ → Option Overridden
cell_of base mine theirs union i =
    overridden same_tile (slice_index_or base i empty_tile) (slice_index_or mine i empty_tile) (slice_index_or theirs i empty_tile)
    (slice_index_or union i empty_tile)

-- findings of so many cells from one on, those that are overridden
unfoldable pub cells_from : BoardId → List Tile → List Tile → List Tile → List Tile → ℕ → ℕ → List Finding
cells_from b base mine theirs union i zero = []
cells_from b base mine theirs union i (suc n) =
    cons_option (option_map (finding.Cell b i) (cell_of base mine theirs union i)) (cells_from b base mine theirs union (i + 1) n)

-- those of the tables of a board
abbrev pub table_findings : BoardId → List Tile → List Tile → List Tile → List Tile → List Finding
table_findings b base mine theirs union = cells_from b base mine theirs union 0 1500

-- those of a board that all four worlds have; of another one none is overridden
abbrev pub found_on : BoardId → Option Board → Option Board → Option Board → Option Board → List Finding
found_on b (Some base) (Some mine) (Some theirs) (Some union) = table_findings b base.tiles mine.tiles theirs.tiles union.tiles
found_on b _ _ _ _ = []

-- those of a board by its name
abbrev pub cell_findings : Views → BoardId → List Finding
cell_findings w b =
    found_on b (find_board b w.base.boards) (find_board b w.mine.boards) (find_board b w.theirs.boards) (find_board b w.union.boards)

-- a finding of a register of a stat on a board, if it is overridden
abbrev pub stat_finding : Views → BoardId → StatId → StatRegister → Option Finding
stat_finding w b x r = option_map (finding.Stat x r) (of_that_stat w b x r)

-- those of a stat
abbrev pub stat_findings : Views → BoardId → StatId → List Finding
stat_findings w b x = filter_map (stat_finding w b x) stat_registers

-- ---- all registers

-- whether a finding is of a register: one of the world, of a board or of a stat, or a cell
abbrev pub is_of_register : Finding → Bool
is_of_register (finding.World r o) = true
is_of_register (finding.Board b r o) = true
is_of_register (finding.Cell b i o) = true
is_of_register (finding.Stat x r o) = true
is_of_register _ = false

-- those of registers, in their order
abbrev pub of_registers : List Finding → List Finding
of_registers found = filter is_of_register found

-- the registers of a stat of a board, unless it is removed
abbrev pub shown_stat_findings : Views → BoardId → Stat → List Finding
shown_stat_findings w b s = if s.removed then [] else stat_findings w b s.id

-- those of a board, unless it is removed: its properties, its cells, its exits and its stats
abbrev pub shown_board_findings : Views → Board → List Finding
shown_board_findings w b =
    if b.removed then [] else
    (((board_findings w b.id properties ++ cell_findings w b.id) ++ board_findings w b.id exits) ++ flat_map (shown_stat_findings w b.id) b.stats)

-- the registers that are overridden: those of the world, and those of each board that the union shows
abbrev pub register_findings : Views → List Finding
register_findings w = world_findings w ++ flat_map (shown_board_findings w) w.union.boards
