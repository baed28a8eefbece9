-- Boards that are taken by their places.
use Rattle.std.proofs.Common.{◌≡◌, ◌∙◌, ℕ, List, [], ◌∷◌, map, refl, sym, ap, subst}
use Rattle.std.specs.List.{All, AllByRecursion}
use Rattle.std.proofs.lemmas.List.Elements.{All-from_recursion}
use Rattle.zed_edit.specs.declared.plain.Plain.{Plain}
use Rattle.zed_edit.specs.declared.plain.Board.{Board}
use Rattle.zed_edit.specs.Numbers.{alive_boards}
use Rattle.zed_view.specs.View.{board_at}
use Rattle.zed_export.specs.ByNumber.{AreByNumber}
use Rattle.zed_export.specs.World.{exported_board, exported_boards}

pub map_twice : {X Y Z : Type 0} (f : X → Y) (g : Y → Z) (xs : List X) → map (λ x. g (f x)) xs ≡ map g (map f xs)
map_twice f g [] = refl
map_twice f g (x ∷ xs) = ap (λ ys. g (f x) ∷ ys) (map_twice f g xs)

-- what holds of each image holds of each member by its image
pub each_image : {X Y : Type 0} (P : Y → Type 0) (f : X → Y) (xs : List X) → AllByRecursion P (map f xs) → AllByRecursion (λ x. P (f x)) xs
each_image P f [] h = tt
each_image P f (x ∷ xs) h = (h.0, each_image P f xs h.1)

-- the boards of the places by number are those of the world
pub exported_at : (p : Plain) (places : List ℕ) → AreByNumber p places
    → map (λ i. exported_board p (board_at p i)) places ≡ exported_boards p
exported_at p places h = map_twice (board_at p) (exported_board p) places ∙ ap (map (exported_board p)) h.boards

-- and what holds of each that has a number holds of each of these places
pub each_at : (P : Board → Type 0) (p : Plain) (places : List ℕ) → AreByNumber p places → AllByRecursion P (alive_boards p)
    → All (λ i. P (board_at p i)) places
each_at P p places h each =
    All-from_recursion (λ i. P (board_at p i)) places (each_image P (board_at p) places (subst (AllByRecursion P) (sym h.boards) each))
