-- Boards by name: that a name tells the board, and what is found after a change of all.
use Rattle.std.proofs.Common.{◌≡◌, Bool, true, false, cond, [], ◌∷◌, Some, refl, ap}
use Rattle.std.specs.List.{AllByRecursion}
use Rattle.std.specs.Option.{option_map}
use Rattle.zed_types.specs.declared.names.Name.{Name}
use Rattle.zed_types.specs.declared.names.BoardId.{BoardId}
use Rattle.zed_types.specs.Names.{same_board, NamesRise, is_earlier}
use Rattle.zed_stats.specs.ByName.{IsOnlyName}
use Rattle.zed_live.specs.declared.board.LiveBoard.{LiveBoard}
use Rattle.zed_live.specs.Boards.{Boards, board_name, board_in, change_all}

abbrev board_at : Name → BoardId
board_at n = record { name = n }

pub only_board : IsOnlyName board_name
only_board a b e = ap board_at e

-- after a change of all
pub in-change_all : (b : BoardId) (f : LiveBoard → LiveBoard) (ys : Boards) → board_in b (change_all f ys) ≡ option_map f (board_in b ys)
in-change_all b f [] = refl
in-change_all b f (y ∷ ys) = go (same_board b y.0) (in-change_all b f ys)
  where
    go : (v : Bool) → board_in b (change_all f ys) ≡ option_map f (board_in b ys)
        → cond v (Some (f y.1)) (board_in b (change_all f ys)) ≡ option_map f (cond v (Some y.1) (board_in b ys))
    go true more = refl
    go false more = more

abbrev pub Rise : Boards → Type 0
Rise ys = NamesRise (λ y. (y.0).name) ys

all-changed_all : (P : BoardId → Type 0) (f : LiveBoard → LiveBoard) (ys : Boards) → AllByRecursion (λ y. P y.0) ys
    → AllByRecursion (λ y. P y.0) (change_all f ys)
all-changed_all P f [] a = tt
all-changed_all P f (y ∷ ys) a = (a.0, all-changed_all P f ys a.1)

pub rise-change_all : (f : LiveBoard → LiveBoard) (ys : Boards) → Rise ys → Rise (change_all f ys)
rise-change_all f [] r = tt
rise-change_all f (y ∷ ys) r = (all-changed_all (λ d. is_earlier (y.0).name d.name ≡ true) f ys r.0, rise-change_all f ys r.1)
