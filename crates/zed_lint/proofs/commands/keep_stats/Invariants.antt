use Rattle.std.proofs.Common.{◌≡◌, ◌++◌, take}
use Rattle.std.specs.List.{flat_map}
use Rattle.zed_lint.specs.Commands.{stat_words}
use Rattle.zed_lint.proofs.commands.keep_stats.Given as goal

abbrev pub invariant-loop-stat : goal.invariant-loop-stat
invariant-loop-stat l = l.words.items ≡ l.fn.words.items ++ flat_map stat_words (take l.stat-index l.stats)
