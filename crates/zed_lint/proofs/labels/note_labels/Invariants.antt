use Rattle.std.proofs.Common.{◌≡◌, ◌++◌, drop}
use Rattle.zed_lint.specs.Found.{each_from}
use Rattle.zed_lint.specs.Labels.{label_findings, labels_findings}
use Rattle.zed_lint.proofs.labels.note_labels.Given as goal

-- what was found by now, with what is found of the rest, is all
abbrev pub invariant-loop-at : goal.invariant-loop-at
invariant-loop-at l =
    l.found.items ++ each_from (label_findings l.spot l.stats l.program) l.at (drop l.at l.program) ≡ l.fn.found.items ++ labels_findings l.spot l.stats l.program
