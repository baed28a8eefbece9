use Rattle.std.proofs.Common.{◌≡◌, ◌++◌, drop}
use Rattle.zed_log.specs.Stats.{stat_lines}
use Rattle.zed_log.proofs.stat_lines.lines_of.Given as goal

-- the lines so far, with those of the rest, are all
abbrev pub invariant-loop-number : goal.invariant-loop-number
invariant-loop-number l = l.text.items ++ stat_lines l.board l.number (drop l.number l.stats) ≡ stat_lines l.board 0 l.stats
