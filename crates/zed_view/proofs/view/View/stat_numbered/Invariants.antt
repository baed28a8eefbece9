use Rattle.std.proofs.Common.{◌≡◌, drop}
use Rattle.std.specs.List.{find}
use Rattle.zed_types.specs.Names.{same_board}
use Rattle.zed_view.proofs.view.View.stat_numbered.Given as goal

-- the board is sought among the rest
abbrev pub invariant-loop-i : goal.invariant-loop-i
invariant-loop-i l = find (λ x. same_board x.id l.board) (drop l.i l.self.boards) ≡ find (λ x. same_board x.id l.board) l.self.boards
