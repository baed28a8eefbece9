use Rattle.std.proofs.Common.{◌≡◌, ◌++◌, map, drop}
use Rattle.zed_undo.specs.Choosing.{is_chosen}
use Rattle.zed_undo.proofs.choosing.marks_passing.Given as goal

-- the marks so far, with those of the rest, are all marks
abbrev pub invariant-loop-edit : goal.invariant-loop-edit
invariant-loop-edit l =
    l.marks.items ++ map (is_chosen l.view l.sought l.stamps) (drop l.edit-index l.edits)
    ≡ map (is_chosen l.view l.sought l.stamps) l.edits
