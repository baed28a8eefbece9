use Rattle.std.proofs.Common.{◌≡◌, drop}
use Rattle.std.specs.List.{list_any}
use Rattle.zed_types.specs.Names.{same_board}
use Rattle.zed_types.specs.Names.{title}
use Rattle.zed_export.proofs.limits.has_title.Given as goal

-- the title is sought among the rest
abbrev pub invariant-loop-i : goal.invariant-loop-i
invariant-loop-i l = list_any (λ b. same_board b.id title) (drop l.i l.view.boards) ≡ list_any (λ b. same_board b.id title) l.view.boards
