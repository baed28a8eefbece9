-- Where nothing is found, nothing of a register is lost.
use Rattle.std.specs.Prelude.{◌≡◌, ◌<◌, ℕ, false, List, [], Some, Option, option_map}
use Rattle.std.specs.List.{AllByRecursion}
use Rattle.zed_types.specs.declared.header.FlagSlot.{FlagSlot}
use Rattle.zed_types.specs.declared.header.HeaderNumber.{HeaderNumber}
use Rattle.zed_types.specs.declared.header.KeyColour.{KeyColour}
use Rattle.zed_types.specs.declared.names.BoardId.{BoardId}
use Rattle.zed_types.specs.declared.names.StatId.{StatId}
use Rattle.zed_types.specs.declared.property.BoardByte.TheVariants.{MaxShots}
use Rattle.zed_types.specs.declared.property.BoardFlag.{BoardFlag}
use Rattle.zed_types.specs.declared.property.BoardText.{BoardText}
use Rattle.zed_types.specs.declared.property.Side.{Side as Edge}
use Rattle.zed_types.specs.declared.stat_field.StatByte.TheVariants.{P1, P2}
use Rattle.zed_types.specs.declared.stat_field.StatNumber.TheVariants.{Cycle, Position}
use Rattle.zed_op.specs.declared.op.Edit.{Edit}
use Rattle.zed_op.specs.Set.{union}
use Rattle.zed_edit.specs.declared.plain.Board.{Board}
use Rattle.zed_edit.specs.declared.plain.Plain.{Plain}
use Rattle.zed_edit.specs.declared.plain.Stat.{Stat}
use Rattle.zed_edit.specs.Replay.{replay}
use Rattle.zed_laws.specs.Fields.{board_byte, board_flag, board_text, cell, flag, follower, header_number, key, leader, rank, saved, stat_byte, stat_number, time_limit, world_name}
use Rattle.zed_laws.specs.Winners.{Register, find_board, of_board, of_header}
use Rattle.zed_sides.specs.Readings.{BothShow}
use Rattle.zed_sides.specs.Sides.{common}
use Rattle.zed_join.specs.declared.sides.Views.{Views}
use Rattle.zed_compare.specs.Findings.{register_findings}
use Rattle.zed_join.specs.Targets.{target}
use Rattle.zed_compare.specs.Registers.{exit_of, place_of, start_of, step_of, third_of, under_of}
use Rattle.zed_join.specs.Things.{stat_on}

-- what two sets show, what they show that both have, and what their union shows
abbrev pub worlds : List Edit → List Edit → Views
worlds es fs = record { base = replay (common es fs); mine = replay es; theirs = replay fs; union = replay (union es fs) }

-- what each side made of what is read so shows in the union
abbrev pub ReadingIsKept : {V : Type 0} → Views → (Plain → V) → Type 0
ReadingIsKept w read = BothShow (read w.base) (read w.mine) (read w.theirs) (read w.union)

-- what each side made of a register shows in the union
abbrev pub IsKept : {V : Type 0} → Views → Register V → Type 0
IsKept w r = ReadingIsKept w r.read

-- so it is in each register of the world
pub record WorldIsKept (w : Views) : Type 0 where
  pub numbers : (f : HeaderNumber) → IsKept w (of_header (header_number f))
  pub keys : (k : KeyColour) → IsKept w (of_header (key k))
  pub saved : IsKept w (of_header saved)
  pub start_board : ReadingIsKept w (λ p. target p (Some p.header.current_board))
  pub name : IsKept w (of_header world_name)
  pub flags : (k : FlagSlot) → IsKept w (of_header (flag k))

-- what is read so of a board in each world, if it was made there
abbrev pub on_board : {V : Type 0} → (Plain → Board → V) → BoardId → Plain → Option V
on_board read b p = option_map (read p) (find_board b p.boards)

-- so it is in each property of a board; an exit leads to the same board, which is there as well
pub record BoardIsKept (w : Views) (b : BoardId) : Type 0 where
  pub texts : (f : BoardText) → IsKept w (of_board b (board_text f))
  pub rank : IsKept w (of_board b rank)
  pub max_shots : IsKept w (of_board b (board_byte MaxShots))
  pub flags : (f : BoardFlag) → IsKept w (of_board b (board_flag f))
  pub time_limit : IsKept w (of_board b time_limit)
  pub start : ReadingIsKept w (on_board (λ p. start_of) b)
  pub exits : (f : Edge) → ReadingIsKept w (on_board (exit_of f) b)

-- a stat on a board is read so in each world, if it was made there
abbrev pub on_stat : {V : Type 0} → (Plain → Stat → V) → BoardId → StatId → Plain → Option V
on_stat read b x p = option_map (read p) (stat_on x (find_board b p.boards))

-- so it is in each field of a stat but its text
pub record StatIsKept (w : Views) (b : BoardId) (x : StatId) : Type 0 where
  pub place : ReadingIsKept w (on_stat (λ p. place_of) b x)
  pub step : ReadingIsKept w (on_stat (λ p. step_of) b x)
  pub under : ReadingIsKept w (on_stat (λ p. under_of) b x)
  pub cycle : ReadingIsKept w (on_stat (λ p. (stat_number Cycle).value) b x)
  pub position : ReadingIsKept w (on_stat (λ p. (stat_number Position).value) b x)
  pub p1 : ReadingIsKept w (on_stat (λ p. (stat_byte P1).value) b x)
  pub p2 : ReadingIsKept w (on_stat (λ p. (stat_byte P2).value) b x)
  pub follower : ReadingIsKept w (on_stat (λ p. follower.value) b x)
  pub leader : ReadingIsKept w (on_stat (λ p. leader.value) b x)
  pub p3 : ReadingIsKept w (on_stat (λ p s. third_of p s.fields.p3) b x)

-- a board is made in each world
pub record IsMade (w : Views) (b : BoardId) : Type 0 where
  pub base : (x : Board) × (find_board b w.base.boards ≡ Some x)
  pub mine : (x : Board) × (find_board b w.mine.boards ≡ Some x)
  pub theirs : (x : Board) × (find_board b w.theirs.boards ≡ Some x)
  pub union : (x : Board) × (find_board b w.union.boards ≡ Some x)

-- and so it is with what the union shows of a board: its properties, its cells if it was made in each world, and the fields of
-- the stats that aren't removed
pub record AllIsKept (w : Views) (b : Board) : Type 0 where
  pub properties : BoardIsKept w b.id
  pub cells : IsMade w b.id → (i : ℕ) → i < 1500 → IsKept w (of_board b.id (cell i))
  pub stats : AllByRecursion (λ s. s.removed ≡ false → StatIsKept w b.id s.id) b.stats

-- where no register is found to be overridden, what each side made of the registers of the world, of the boards that the union shows and of their
-- stats is shown
abbrev pub SilenceIsSafe : Type 0
SilenceIsSafe =
    (w : Views)
    → register_findings w ≡ []
    → WorldIsKept w × AllByRecursion (λ b. b.removed ≡ false → AllIsKept w b) w.union.boards
