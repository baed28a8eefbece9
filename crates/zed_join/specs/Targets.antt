-- Boards that something leads to.
use Rattle.std.specs.Prelude.{Bool, false, not, ◌&&◌, Option, Some, None}
use Rattle.std.specs.Bool.{beq}
use Rattle.std.specs.List.{list_any}
use Rattle.std.specs.Option.{option_eq}
use Rattle.zed_types.specs.declared.names.BoardId.{BoardId}
use Rattle.zed_types.specs.Names.{same_board}
use Rattle.zed_edit.specs.declared.plain.Plain.{Plain}
use Rattle.zed_join.specs.declared.targets.Target.{Target}

-- whether a board is there: made, and not removed
abbrev pub is_board_there : Plain → BoardId → Bool
is_board_there p b = list_any (λ x. same_board x.id b && not x.removed) p.boards

-- whether a board is meant, and is there
abbrev pub is_target_there : Plain → Option BoardId → Bool
is_target_there p None = false
is_target_there p (Some b) = is_board_there p b

-- a board that something leads to, and whether it is there
abbrev pub target : Plain → Option BoardId → Target
target p b = record { board = b; is_there = is_target_there p b }

-- whether it is the same one, and is there as well
abbrev pub same_target : Target → Target → Bool
same_target a b = option_eq same_board a.board b.board && beq a.is_there b.is_there
