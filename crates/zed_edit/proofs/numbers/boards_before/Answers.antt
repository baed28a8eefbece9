use Rattle.std.proofs.Common.{◌∙◌, ◌&&◌, not, count_by, ap}
use Rattle.zed_edit.specs.declared.plain.Board.{Board}
use Rattle.zed_edit.specs.declared.numbers.Standing.{Standing}
use Rattle.zed_edit.specs.Numbers.{standing, stands_before}
use Rattle.zed_edit.proofs.Finding.{count_there}
use Rattle.zed_edit.proofs.numbers.boards_before.Goals as goal

pub returns : goal.returns
returns c =
    c.count_before.ensures
    ∙ ap (λ (s : Standing). count_by (λ (b : Board). not b.removed && stands_before (standing b) s) c.args.boards.now) c.where_is.ensures
    ∙ count_there c.args.boards.now c.args.one.now
