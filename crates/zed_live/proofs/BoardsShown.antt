-- Boards that have the latest writes of the edits taken are those of the replay.
use Rattle.std.proofs.Common.{◌≡◌, ◌∙◌, Bool, true, false, cond, List, [], ◌∷◌, Option, Some, None, refl, ap, sym, true≢false}
use Rattle.std.specs.List.{list_any}
use Rattle.std.specs.Option.{option_map, is_some}
use Rattle.zed_types.specs.declared.names.Name.{Name}
use Rattle.zed_types.specs.declared.names.BoardId.{BoardId}
use Rattle.zed_types.specs.Names.{same_board}
use Rattle.zed_types.proofs.StampOrder.{same_board-true, same_name-itself}
use Rattle.zed_op.specs.declared.op.Edit.{Edit}
use Rattle.zed_op.specs.declared.thing.Thing.TheVariants as thing
use Rattle.zed_op.specs.Set.{IsRising, AllFit}
use Rattle.zed_op.specs.Sizes.{HaveSizes}
use Rattle.zed_edit.specs.declared.plain.Board.{Board}
use Rattle.zed_edit.specs.Replay.{replay, taken}
use Rattle.zed_laws.proofs.MadeThings.{find-any}
use Rattle.zed_laws.proofs.NamesInOrder.{replay_ordered}
use Rattle.zed_laws.proofs.RegularSteps.{ReadIsNormal}
use Rattle.zed_laws.specs.Making.{makes}
use Rattle.zed_laws.specs.Winners.{find_board}
use Rattle.zed_laws.proofs.Making.{taken_make}
use Rattle.zed_laws.proofs.OrderedLists.{ordered_are_their_members}
use Rattle.zed_live.specs.declared.board.LiveBoard.{LiveBoard}
use Rattle.zed_live.specs.Board.{shown_board}
use Rattle.zed_live.specs.Boards.{Boards, board_name, board_in, shown_boards, IsLeft, BoardsShow, ReplayedBoardsAreShown}
use Rattle.zed_live.proofs.BoardShown.{replayed_board_is_shown}
use Rattle.zed_stats.proofs.Found.{apart}
use Rattle.zed_live.proofs.BoardsTake.{untouched-unmade}
use Rattle.zed_live.proofs.NamesMapped.{rise-mapped}

-- ---- what is found

abbrev board_at : Name → BoardId
board_at n = record { name = n }

find-shown : (b : BoardId) (ys : Boards) → find_board b (shown_boards ys) ≡ option_map (shown_board b) (board_in b ys)
find-shown b [] = refl
find-shown b (y ∷ ys) = go (same_board b y.0) refl (find-shown b ys)
  where
    go : (v : Bool) → same_board b y.0 ≡ v → find_board b (shown_boards ys) ≡ option_map (shown_board b) (board_in b ys)
        → cond (same_board y.0 b) (Some (shown_board y.0 y.1)) (find_board b (shown_boards ys))
        ≡ option_map (shown_board b) (cond v (Some y.1) (board_in b ys))
    go true v more =
        let i = same_board-true b y.0 v in
        let w : same_board y.0 b ≡ true = ap (λ d. same_board d b) (sym i) ∙ same_name-itself b.name in
        rw w (ap (λ d. Some (shown_board d y.1)) (sym i))
    go false v more =
        let w : same_board y.0 b ≡ false = apart board_name b y.0 v in
        rw w more

module _ (normal : ReadIsNormal) (es : List Edit) (ys : Boards) (rises : IsRising es) (fits : AllFit es) (sizes : HaveSizes es) (was : BoardsShow (taken es) ys) where
  -- a board is in the replay where the edits taken make it
  there : (b : BoardId) → is_some (find_board b (replay es).boards) ≡ list_any (λ e. makes e (thing.Board b)) (taken es)
  there b = find-any (λ x. same_board x.id b) (replay es).boards ∙ taken_make es (thing.Board b) rises

  each-shown : (b : BoardId) → option_map (shown_board b) (board_in b ys) ≡ find_board b (replay es).boards
  each-shown b = go (board_in b ys) (was.each b) (find_board b (replay es).boards) refl
    where
      go : (o : Option LiveBoard) → IsLeft b (taken es) o → (r : Option Board) → find_board b (replay es).boards ≡ r
          → option_map (shown_board b) o ≡ r
      go None k None r = refl
      go None k (Some board) r = absurd (true≢false (ap is_some (sym r) ∙ there b ∙ untouched-unmade b (taken es) k))
      go (Some x) k None r = absurd (true≢false (sym k.0 ∙ sym (there b) ∙ ap is_some r))
      go (Some x) k (Some board) r = ap Some (replayed_board_is_shown normal b es x board rises fits sizes r k.1)

pub replayed_boards_are_shown : ReadIsNormal → ReplayedBoardsAreShown
replayed_boards_are_shown normal es ys rises fits sizes was =
    ordered_are_their_members (λ (b : Board). b.id.name) (shown_boards ys) (replay es).boards
    (rise-mapped (λ (y : BoardId × LiveBoard). (y.0).name) (λ (b : Board). b.id.name) (λ y. shown_board y.0 y.1) (λ y. refl) ys was.rise)
    (replay_ordered es rises).boards
    (λ n. find-shown (board_at n) ys ∙ each-shown normal es ys rises fits sizes was (board_at n))
