use Rattle.std.proofs.Common.{◌≡◌}
use Rattle.std.proofs.lemmas.Result.{err_from_is_err_and}
use Rattle.cmd_program.proofs.SetSteps.{sets_not, sets_then}
use Rattle.cmd_program.proofs.setting.set_on.Goals as goal

pub changed_world-requires : goal.changed_world-requires
changed_world-requires c = c.requires

pub returns-in_err-world : goal.returns-in_err-world
returns-in_err-world c =
    let p = err_from_is_err_and c.from_residual.result c.from_residual.ensures.1 in
    let same : p.0 ≡ c.in_err-world.field-0.0 = p.2 in
    let d = c.args.document.now in
    rw (p.1, same) (sets_not c.args.file.now c.args.replica c.args.board c.args.stat c.args.program.now (d.world, d.edits) c.in_err-world.field-0.0 c.in_err-world.ensures)

pub draw_alone-requires : goal.draw_alone-requires
draw_alone-requires c = c.requires

pub returns : goal.returns
returns c =
    let d = c.args.document.now in
    sets_then c.args.file.now c.args.replica c.args.board c.args.stat c.args.program.now (d.world, d.edits) c.in_ok-world.world c.draw_alone.result c.in_ok-world.ensures
    (c.draw_alone.ensures.draws c.args.file.now)
