use Rattle.std.proofs.Common.{◌≡◌, ◌++◌, drop}
use Rattle.zed_undo.specs.Choosing.{without_first}
use Rattle.zed_undo.proofs.choosing.later_marks.Given as goal

-- the marks so far, with those of the rest without so many more, are all marks
abbrev pub invariant-loop-mark : goal.invariant-loop-mark
invariant-loop-mark l = l.later.items ++ without_first l.left (drop l.mark-index l.marks) ≡ without_first l.count l.marks
