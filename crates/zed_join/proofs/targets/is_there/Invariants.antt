use Rattle.std.proofs.Common.{◌≡◌, ◌&&◌, drop, not}
use Rattle.std.specs.List.{list_any}
use Rattle.zed_types.specs.Names.{same_board}
use Rattle.zed_join.proofs.targets.is_there.Given as goal

-- the board is sought among the rest
abbrev pub invariant-loop-i : goal.invariant-loop-i
invariant-loop-i l =
    list_any (λ x. same_board x.id l.id && not x.removed) (drop l.i l.view.boards) ≡ list_any (λ x. same_board x.id l.id && not x.removed) l.view.boards
