use Rattle.std.proofs.Common.{◌∙◌, ap, Bor}
use Rattle.std.specs.Prelude.{slice_get}
use Rattle.zed_world.specs.declared.board.BoardData.{BoardData}
use Rattle.cmd_program.proofs.Lists.{got}
use Rattle.cmd_program.proofs.worlds.board_at.Goals as goal

pub returns-clause-found : goal.returns-clause-found
returns-clause-found c =
    got (λ (b : Bor BoardData). b.now) c.boards.result.now c.from.result c.get.result c.get.ensures.lookup
    ∙ ap (λ n. slice_get c.boards.result.now n) c.from.ensures ∙ ap (λ bs. slice_get bs c.args.number) c.boards.ensures.result
