use Rattle.std.proofs.Common.{◌≡◌, take}
use Rattle.std.specs.List.{flat_map}
use Rattle.zed_lint.specs.Lines.{finding_line}
use Rattle.zed_lint.proofs.lines.text_of.Given as goal

abbrev pub invariant-loop-finding : goal.invariant-loop-finding
invariant-loop-finding l = l.text.items ≡ flat_map finding_line (take l.finding-index l.found)
