-- A board, or a stat, by its number: what stands there among live things shows what stands there among plain ones.
use Rattle.std.proofs.Common.{◌≡◌, ℕ, zero, suc, List, [], ◌∷◌, map, get_or, slice_get, Some, ap, sym}
use Rattle.zed_types.specs.declared.names.BoardId.{BoardId}
use Rattle.zed_types.specs.declared.names.StatId.{StatId}
use Rattle.zed_types.proofs.Facts.{some_is}
use Rattle.zed_edit.specs.declared.plain.Board.{Board}
use Rattle.zed_edit.specs.declared.plain.Stat.{Stat}
use Rattle.zed_stats.specs.declared.stat.LiveStat.{LiveStat}
use Rattle.zed_live.specs.declared.board.LiveBoard.{LiveBoard}
use Rattle.zed_live.specs.Board.{shown_board}
use Rattle.zed_live.specs.Boards.{Boards, shown_boards}
use Rattle.zed_live.specs.Stat.{shown_stat}
use Rattle.zed_live.specs.BoardStats.{Entries, shown_stats}

-- of a list that is mapped
pub mapped_at : {X Y : Type 0} (f : X → Y) (xs : List X) (i : ℕ) (x : X) (d : Y) → slice_get xs i ≡ Some x → f x ≡ get_or (map f xs) i d
mapped_at f [] i x d h = absurd (cc)
mapped_at f (y ∷ ys) zero x d h = ap f (sym (some_is y x h))
mapped_at f (y ∷ ys) (suc i) x d h = mapped_at f ys i x d h

pub board_there : (ys : Boards) (i : ℕ) (b : BoardId) (x : LiveBoard) (d : Board) → slice_get ys i ≡ Some (b, x)
    → shown_board b x ≡ get_or (shown_boards ys) i d
board_there ys i b x d h = mapped_at (λ y. shown_board y.0 y.1) ys i (b, x) d h

pub stat_there : (ts : Entries) (j : ℕ) (s : StatId) (x : LiveStat) (d : Stat) → slice_get ts j ≡ Some (s, x)
    → shown_stat s x ≡ get_or (shown_stats ts) j d
stat_there ts j s x d h = mapped_at (λ t. shown_stat t.0 t.1) ts j (s, x) d h
