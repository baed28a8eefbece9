use Rattle.std.proofs.Common.{◌∙◌}
use Rattle.zed_edit.specs.Numbers.{boards_there}
use Rattle.zed_laws.proofs.ApartBoards.{boards_there_are_apart}
use Rattle.zed_view.proofs.Firsts.{first-so}
use Rattle.cmd_take.proofs.note.boards_by_number.Goals as goal

pub returns-clause-boards : goal.returns-clause-boards
returns-clause-boards c =
    let p = c.args.view.now in
    c.first_boards.ensures.boards ∙ first-so 101 (boards_there p) (boards_there_are_apart p c.requires)
