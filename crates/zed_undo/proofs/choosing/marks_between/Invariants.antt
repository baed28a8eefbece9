use Rattle.std.proofs.Common.{◌≡◌, ◌++◌, map, drop}
use Rattle.zed_undo.specs.Choosing.{is_between}
use Rattle.zed_undo.proofs.choosing.marks_between.Given as goal

-- the marks so far, with those of the rest, are all marks
abbrev pub invariant-loop-edit : goal.invariant-loop-edit
invariant-loop-edit l =
    l.marks.items ++ map (λ e. is_between l.new l.old e.stamp) (drop l.edit-index l.edits)
    ≡ map (λ e. is_between l.new l.old e.stamp) l.edits
