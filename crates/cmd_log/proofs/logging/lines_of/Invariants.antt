use Rattle.std.proofs.Common.{◌≡◌, drop, filter, ◌++◌}
use Rattle.zed_log.specs.Laws.{log_at}
use Rattle.zed_filter.specs.Passing.{passes}
use Rattle.cmd_log.specs.Logged.{is_held}
use Rattle.cmd_log.proofs.logging.lines_of.Given as goal

-- the lines so far, with those of the rest, are all
abbrev pub invariant-loop-edit : goal.invariant-loop-edit
invariant-loop-edit l =
    l.text.items ++ log_at l.length (is_held l.document.edits) (filter (passes l.view l.sought) (drop l.edit-index l.edit-items)) ≡ log_at l.length (is_held l.document.edits) (filter (passes l.view l.sought) l.document.edits)
