use Rattle.std.proofs.Common.{◌∙◌}
use Rattle.std.proofs.lemmas.List.{take_all}
use Rattle.zed_edit.specs.Numbers.{alive_boards, boards_there}
use Rattle.zed_laws.proofs.ApartBoards.{boards_there_are_apart}
use Rattle.zed_view.proofs.Firsts.{first-so}
use Rattle.zed_export.proofs.numbers.boards_by_number.Goals as goal

pub returns : goal.returns
returns c =
    let p = c.args.view.now in
    record {
      boards =
          c.first_boards.ensures.boards ∙ first-so 101 (boards_there p) (boards_there_are_apart p c.requires.ordered)
          ∙ take_all 101 (alive_boards p) c.requires.few;
      within = c.first_boards.ensures.within;
    }
