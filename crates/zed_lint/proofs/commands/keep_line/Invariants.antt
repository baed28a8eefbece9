use Rattle.std.proofs.Common.{◌≡◌, ◌++◌}
use Rattle.zed_lint.specs.Commands.{along_line, words_set}
use Rattle.zed_lint.specs.Reading.{along}
use Rattle.zed_lint.proofs.commands.keep_line.Given as goal

-- the words by now, with those from here on, are all
abbrev pub invariant-loop-left : goal.invariant-loop-left
invariant-loop-left l =
    l.words.items ++ along words_set l.program l.left l.next ≡ l.fn.words.items ++ along_line words_set l.program l.at

abbrev pub decreases-loop-left : goal.decreases-loop-left
decreases-loop-left l = l.left
