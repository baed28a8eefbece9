use Rattle.std.proofs.Common.{◌≡◌, ◌++◌, drop}
use Rattle.std.specs.List.{flat_map}
use Rattle.cmd_save.specs.Report.{warning_line}
use Rattle.cmd_save.proofs.report.warnings_told.Given as goal

-- the lines so far, before those that are left, are all
abbrev pub invariant-loop-warning : goal.invariant-loop-warning
invariant-loop-warning l = l.text.items ++ flat_map warning_line (drop l.warning-index l.warnings) ≡ flat_map warning_line l.warnings
