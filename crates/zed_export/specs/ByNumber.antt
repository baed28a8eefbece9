-- The boards of a world in the order of their numbers, by their places in a view, and their names.
use Rattle.std.specs.Prelude.{◌≡◌, ℕ, ◌<◌, List, length, map, Option, None}
use Rattle.std.specs.List.{All}
use Rattle.zed_types.specs.declared.names.Name.{Name}
use Rattle.zed_edit.specs.declared.plain.Plain.{Plain}
use Rattle.zed_edit.specs.Numbers.{alive_boards}
use Rattle.zed_view.specs.View.{board_at}
use Rattle.zed_export.specs.Fields.{place_among}

-- these places are those of the boards that aren't removed, in the order of their numbers
pub record AreByNumber (p : Plain) (places : List ℕ) : Type 0 where
  pub boards : map (board_at p) places ≡ alive_boards p
  pub within : All (λ i. i < length p.boards) places

-- the same names once by number, and once in another order, with their numbers beside
pub record AreBeside (by_number names : List Name) (numbers : List (Option ℕ)) : Type 0 where
  pub each : numbers ≡ map (place_among by_number) names
  pub all : (name : Name) → place_among names name ≡ None → place_among by_number name ≡ None
