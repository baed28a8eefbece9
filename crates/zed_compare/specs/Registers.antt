-- What is overridden of each register.
use Rattle.std.specs.Prelude.{◌&&◌, Bool, false, nat_eq, Option, Some, option_map}
use Rattle.std.specs.Bool.{beq}
use Rattle.std.specs.Cmp.Lexicographic.{pointwise}
use Rattle.std.specs.Option.{option_eq}
use Rattle.std.specs.Ordering.{int_eq}
use Rattle.zed_types.specs.declared.names.BoardId.{BoardId}
use Rattle.zed_types.specs.declared.names.StatId.{StatId}
use Rattle.zed_types.specs.declared.property.BoardByte.TheVariants.{MaxShots, StartX, StartY}
use Rattle.zed_types.specs.declared.property.BoardText.TheVariants as text
use Rattle.zed_types.specs.declared.property.Side.{Side as Edge}
use Rattle.zed_types.specs.declared.stat_field.StatByte.TheVariants as byte
use Rattle.zed_types.specs.declared.stat_field.StatNumber.TheVariants as number
use Rattle.zed_types.specs.declared.stat_field.ThirdParameter.{ThirdParameter}
use Rattle.zed_types.specs.declared.stat_field.ThirdParameter.TheVariants as parameter
use Rattle.zed_types.specs.declared.tile.Place.{Place}
use Rattle.zed_types.specs.declared.tile.Tile.{Tile}
use Rattle.zed_types.specs.Names.{same_stat}
use Rattle.zed_edit.specs.declared.plain.Board.{Board}
use Rattle.zed_edit.specs.declared.plain.Plain.{Plain}
use Rattle.zed_edit.specs.declared.plain.Stat.{Stat}
use Rattle.zed_laws.specs.Fields as fields
use Rattle.zed_laws.specs.Fields.{Field}
use Rattle.zed_laws.specs.Winners.{find_board, of_board, of_header}
use Rattle.zed_sides.specs.declared.side.Overridden.{Overridden}
use Rattle.zed_compare.specs.declared.registers.BoardRegister.{BoardRegister}
use Rattle.zed_compare.specs.declared.registers.BoardRegister.TheVariants as board
use Rattle.zed_compare.specs.declared.registers.StatRegister.{StatRegister}
use Rattle.zed_compare.specs.declared.registers.StatRegister.TheVariants as stat
use Rattle.zed_compare.specs.declared.registers.WorldRegister.{WorldRegister}
use Rattle.zed_compare.specs.declared.registers.WorldRegister.TheVariants as world
use Rattle.zed_join.specs.declared.sides.Views.{Views}
use Rattle.zed_compare.specs.declared.stats.Step.{Step}
use Rattle.zed_compare.specs.declared.stats.Third.{Third}
use Rattle.zed_compare.specs.declared.stats.Third.TheVariants as third
use Rattle.zed_join.specs.declared.targets.Target.{Target}
use Rattle.zed_join.specs.Targets.{same_target, target}
use Rattle.zed_compare.specs.Reading.{in_readings, in_register}
use Rattle.zed_join.specs.Things.{stat_on}

-- ---- the world

-- what is overridden of a register of the world
abbrev pub of_world : Views → WorldRegister → Option Overridden
of_world w (world.Number f) = in_register int_eq (of_header (fields.header_number f)) w
of_world w (world.Key k) = in_register beq (of_header (fields.key k)) w
of_world w world.Saved = in_register beq (of_header fields.saved) w
of_world w world.StartBoard = in_readings same_target (λ p. target p (Some p.header.current_board)) w
of_world w world.Name = in_register (pointwise nat_eq) (of_header fields.world_name) w
of_world w (world.Flag k) = in_register (pointwise nat_eq) (of_header (fields.flag k)) w

-- ---- boards

-- where the player starts on a board
abbrev pub start_of : Board → Place
start_of b = record { x = (fields.board_byte StartX).value b; y = (fields.board_byte StartY).value b }

-- whether two places are the same
abbrev pub same_place : Place → Place → Bool
same_place a b = nat_eq a.x b.x && nat_eq a.y b.y

-- where a side of a board leads in a world
abbrev pub exit_of : Edge → Plain → Board → Target
exit_of f p b = target p ((fields.exit f).value b)

-- what is overridden of a register of a board
abbrev pub of_that_board : Views → BoardId → BoardRegister → Option Overridden
of_that_board w b board.Name = in_register (pointwise nat_eq) (of_board b (fields.board_text text.Name)) w
of_that_board w b board.Message = in_register (pointwise nat_eq) (of_board b (fields.board_text text.Message)) w
of_that_board w b board.Rank = in_register nat_eq (of_board b fields.rank) w
of_that_board w b board.MaxShots = in_register nat_eq (of_board b (fields.board_byte MaxShots)) w
of_that_board w b (board.Flag f) = in_register beq (of_board b (fields.board_flag f)) w
of_that_board w b board.TimeLimit = in_register int_eq (of_board b fields.time_limit) w
of_that_board w b board.Start = in_readings (option_eq same_place) (λ p. option_map start_of (find_board b p.boards)) w
of_that_board w b (board.Exit f) = in_readings (option_eq same_target) (λ p. option_map (exit_of f p) (find_board b p.boards)) w

-- ---- stats

-- how far a stat steps to the side and down
abbrev pub step_of : Stat → Step
step_of s = record { x = (fields.stat_number number.StepX).value s; y = (fields.stat_number number.StepY).value s }

-- whether two steps are the same
abbrev pub same_step : Step → Step → Bool
same_step a b = int_eq a.x b.x && int_eq a.y b.y

-- where a stat stands
abbrev pub place_of : Stat → Place
place_of s = record { x = (fields.stat_byte byte.X).value s; y = (fields.stat_byte byte.Y).value s }

-- the tile under a stat
abbrev pub under_of : Stat → Tile
under_of s = record { element = (fields.stat_byte byte.UnderElement).value s; colour = (fields.stat_byte byte.UnderColour).value s }

-- whether two tiles are the same
abbrev pub same_tile : Tile → Tile → Bool
same_tile a b = nat_eq a.element b.element && nat_eq a.colour b.colour

-- a third parameter, in a world: a byte, or a board
abbrev pub third_of : Plain → ThirdParameter → Third
third_of p (parameter.Byte n) = third.Byte n
third_of p (parameter.Board b) = third.Board (target p (Some b))

-- whether two third parameters are the same
abbrev pub same_third : Third → Third → Bool
same_third (third.Byte m) (third.Byte n) = nat_eq m n
same_third (third.Byte m) (third.Board b) = false
same_third (third.Board a) (third.Byte n) = false
same_third (third.Board a) (third.Board b) = same_target a b

-- what is overridden of what a stat on a board reads as in each world
abbrev pub in_stat : {V : Type 0} → (V → V → Bool) → (Plain → Stat → V) → Views → BoardId → StatId → Option Overridden
in_stat same read w b x = in_readings (option_eq same) (λ p. option_map (read p) (stat_on x (find_board b p.boards))) w

-- what is overridden of a field of a stat
abbrev pub in_field : {V : Type 0} → (V → V → Bool) → Field Stat V → Views → BoardId → StatId → Option Overridden
in_field same f w b x = in_stat same (λ p. f.value) w b x

-- what is overridden of a register of a stat on a board
abbrev pub of_that_stat : Views → BoardId → StatId → StatRegister → Option Overridden
of_that_stat w b x stat.Place = in_stat same_place (λ p. place_of) w b x
of_that_stat w b x stat.Step = in_stat same_step (λ p. step_of) w b x
of_that_stat w b x stat.Under = in_stat same_tile (λ p. under_of) w b x
of_that_stat w b x stat.Cycle = in_field int_eq (fields.stat_number number.Cycle) w b x
of_that_stat w b x stat.Position = in_field int_eq (fields.stat_number number.Position) w b x
of_that_stat w b x stat.P1 = in_field nat_eq (fields.stat_byte byte.P1) w b x
of_that_stat w b x stat.P2 = in_field nat_eq (fields.stat_byte byte.P2) w b x
of_that_stat w b x stat.Follower = in_field (option_eq same_stat) fields.follower w b x
of_that_stat w b x stat.Leader = in_field (option_eq same_stat) fields.leader w b x
of_that_stat w b x stat.P3 = in_stat same_third (λ p s. third_of p s.fields.p3) w b x
