use Rattle.std.proofs.Common.{◌≡◌, drop}
use Rattle.std.specs.Prelude.{◌==◌, not, ◌&&◌}
use Rattle.std.specs.List.{find}
use Rattle.zed_undo.specs.Leaving.{first_needed, needs}
use Rattle.zed_undo.proofs.leaving.first_needed.Given as goal

-- it is sought among the rest
abbrev pub invariant-loop-edit : goal.invariant-loop-edit
invariant-loop-edit l =
    find (λ e. needs l.document.edits l.left.edits e && not (e.stamp.replica == l.replica)) (drop l.edit-index l.edit-items) ≡ first_needed l.document.edits l.left.edits l.replica
