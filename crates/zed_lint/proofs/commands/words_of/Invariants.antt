use Rattle.std.proofs.Common.{◌≡◌, take}
use Rattle.std.specs.List.{flat_map}
use Rattle.zed_lint.specs.Commands.{board_words}
use Rattle.zed_lint.proofs.commands.words_of.Given as goal

abbrev pub invariant-loop-board : goal.invariant-loop-board
invariant-loop-board l = l.words.items ≡ flat_map board_words (take l.board-index l.boards)
