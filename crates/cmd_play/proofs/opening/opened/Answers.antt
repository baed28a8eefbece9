use Rattle.std.proofs.Common.{◌∙◌, ap, sym}
use Rattle.zed_types.specs.declared.limits.TheConstants.{READ_BODY_LIMIT}
use Rattle.zed_files.specs.Refusals.{export_refusal}
use Rattle.zed_files.proofs.OffStage.{export_off, off_on}
use Rattle.cmd_play.specs.Opening.{in_world, over_world}
use Rattle.cmd_play.proofs.Boarding.{limit_is_other, other_on}
use Rattle.cmd_play.proofs.Exported.{exported_so}
use Rattle.cmd_play.proofs.opening.opened.Goals as goal

pub returns-in_err-world-clause-off : goal.returns-in_err-world-clause-off
returns-in_err-world-clause-off c =
    off_on c.from_residual.result (export_refusal c.in_err-world.field-0.0) c.from_residual.ensures.1 (export_off c.in_err-world.field-0.0)

pub returns-in_err-world-clause-other : goal.returns-in_err-world-clause-other
returns-in_err-world-clause-other c =
    other_on c.from_residual.result (export_refusal c.in_err-world.field-0.0) c.from_residual.ensures.1 (limit_is_other c.in_err-world.field-0.0)

pub returns-in_err-play-clause-off : goal.returns-in_err-play-clause-off
returns-in_err-play-clause-off c =
    off_on c.from_residual-in_err-play.result c.in_err-play.field-0.0 c.from_residual-in_err-play.ensures.1 c.in_err-play.ensures.off

pub returns-in_err-play-clause-other : goal.returns-in_err-play-clause-other
returns-in_err-play-clause-other c =
    other_on c.from_residual-in_err-play.result c.in_err-play.field-0.0 c.from_residual-in_err-play.ensures.1 c.in_err-play.ensures.other

-- the playtest is of the exported world, and so are the boards
pub returns-clause-opens : goal.returns-clause-opens
returns-clause-opens c =
    let world = exported_so READ_BODY_LIMIT c.args.document.now c.in_ok-world.world c.requires.sound c.in_ok-world.ensures.result in
    ap (λ x. in_world c.args.board x) world ∙ c.in_ok-play.ensures.opens

pub returns-clause-boards : goal.returns-clause-boards
returns-clause-boards c =
    let world = exported_so READ_BODY_LIMIT c.args.document.now c.in_ok-world.world c.requires.sound c.in_ok-world.ensures.result in
    c.boards_of-boards.ensures ∙ sym (ap (λ x. over_world c.args.going x) world)
