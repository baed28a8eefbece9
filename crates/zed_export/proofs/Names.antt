-- The numbers of things are the places of their names.
use Rattle.std.proofs.Common.{◌≡◌, ◌∙◌, ℕ, ◌+◌, Bool, cond, not, List, [], ◌∷◌, map, ap, sym, refl, Option, Some, None}
use Rattle.std.specs.Prelude.{position, option_and_then, unwrap_or}
use Rattle.std.specs.List.{prefix_len}
use Rattle.std.proofs.lemmas.List.{length-map}
use Rattle.zed_types.specs.declared.names.BoardId.{BoardId}
use Rattle.zed_types.specs.declared.names.StatId.{StatId}
use Rattle.zed_types.specs.declared.stat_field.ThirdParameter.{ThirdParameter}
use Rattle.zed_types.specs.declared.stat_field.ThirdParameter.TheVariants as third
use Rattle.zed_types.specs.declared.names.Name.{Name}
use Rattle.zed_types.specs.Names.{same_board, same_name}
use Rattle.zed_edit.specs.declared.plain.Board.{Board}
use Rattle.zed_edit.specs.declared.plain.Stat.{Stat}
use Rattle.zed_edit.specs.declared.plain.Plain.{Plain}
use Rattle.zed_edit.specs.Numbers.{alive_boards, alive_stats, board_number, boards_there, stat_number}
use Rattle.zed_edit.proofs.Numbering.{places-so}
use Rattle.zed_laws.specs.NameOrder.{IsOrdered}
use Rattle.zed_laws.proofs.ApartBoards.{boards_there_are_apart}
use Rattle.zed_export.specs.World.{number_or_0, exit_number, parameter}
use Rattle.zed_export.specs.Fields.{board_names, stat_names, place_or_0, exit_place, place_parameter, stat_place}

front_mapped : {X Y : Type 0} (f : X → Y) (test : Y → Bool) (xs : List X) → prefix_len test (map f xs) ≡ prefix_len (λ x. test (f x)) xs
front_mapped f test [] = refl
front_mapped f test (x ∷ xs) = ap (λ (n : ℕ). cond (test (f x)) (1 + n) 0) (front_mapped f test xs)

-- a member's place is that of its image
pub position_mapped : {X Y : Type 0} (f : X → Y) (test : Y → Bool) (xs : List X) → position test (map f xs) ≡ position (λ x. test (f x)) xs
position_mapped f test xs = rw (front_mapped f (λ y. not (test y)) xs, length-map xs f) refl

pub board_place : (p : Plain) → IsOrdered p → (b : BoardId) → place_or_0 (board_names p) b ≡ number_or_0 p b
board_place p h b =
    let found : board_number p b ≡ position (λ x. same_board x.id b) (alive_boards p) =
    places-so (boards_there p) (boards_there_are_apart p h) b in
    ap (λ o. unwrap_or o 0) (position_mapped (λ (x : Board). x.id.name) (λ (x : Name). same_name x b.name) (alive_boards p) ∙ sym found)

pub exit_places : (p : Plain) → IsOrdered p → (o : Option BoardId) → exit_place (board_names p) o ≡ exit_number p o
exit_places p h None = refl
exit_places p h (Some b) = board_place p h b

pub parameter_places : (p : Plain) → IsOrdered p → (on_passage : Bool) (x : ThirdParameter)
    → place_parameter (board_names p) on_passage x ≡ parameter p on_passage x
parameter_places p h on_passage (third.Board b) = board_place p h b
parameter_places p h on_passage (third.Byte n) = rw (length-map (alive_boards p) (λ (b : Board). b.id.name)) refl

pub stat_places : (b : Board) (o : Option StatId) → stat_place (stat_names b) o ≡ option_and_then (stat_number b) o
stat_places b None = refl
stat_places b (Some s) = position_mapped (λ (x : Stat). x.id.name) (λ (x : Name). same_name x s.name) (alive_stats b)
