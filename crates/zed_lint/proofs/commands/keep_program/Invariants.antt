use Rattle.std.proofs.Common.{◌≡◌, ◌++◌, drop}
use Rattle.zed_lint.specs.Commands.{place_words, program_words}
use Rattle.zed_lint.specs.Found.{each_from}
use Rattle.zed_lint.proofs.commands.keep_program.Given as goal

-- the words by now, with those of the rest, are all
abbrev pub invariant-loop-at : goal.invariant-loop-at
invariant-loop-at l = l.words.items ++ each_from (place_words l.program) l.at (drop l.at l.program) ≡ l.fn.words.items ++ program_words l.program
