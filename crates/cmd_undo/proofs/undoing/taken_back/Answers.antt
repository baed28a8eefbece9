use Rattle.std.proofs.Common.{◌≡◌, inl}
use Rattle.std.proofs.lemmas.Result.{err_from_is_err_and}
use Rattle.cmd_undo.proofs.Steps.{back_given, back_not_shown, back_not_taken}
use Rattle.cmd_undo.proofs.undoing.taken_back.Goals as goal

pub world_shown-requires : goal.world_shown-requires
world_shown-requires c = c.requires.left_sound

pub returns-in_err-world : goal.returns-in_err-world
returns-in_err-world c =
    let p = err_from_is_err_and c.from_residual.result c.from_residual.ensures.1 in
    let same : p.0 ≡ c.in_err-world.field-0.0 = p.2 in
    let d = c.args.document.now in
    rw (p.1, same) (back_not_shown c.args.trial c.args.file.now c.args.replica c.args.marks.now (d.world, d.edits) c.args.left.now.edits c.in_err-world.field-0.0 c.requires.left
    c.in_err-world.ensures)

pub edits_taken-requires : goal.edits_taken-requires
edits_taken-requires c = c.requires.sound

pub returns-in_err-edits : goal.returns-in_err-edits
returns-in_err-edits c =
    let p = err_from_is_err_and c.from_residual-in_err-edits.result c.from_residual-in_err-edits.ensures.1 in
    let same : p.0 ≡ c.in_err-edits.field-0.0 = p.2 in
    let d = c.args.document.now in
    rw (p.1, same) (back_not_taken c.args.trial c.args.file.now c.args.replica c.args.marks.now (d.world, d.edits) c.args.left.now.edits c.in_ok-world.world c.in_err-edits.field-0.0
    c.requires.left c.in_ok-world.ensures c.in_err-edits.ensures.taken)

pub given-requires : goal.given-requires
given-requires c = record { fit = c.in_ok-edits.ensures.fit; joins = c.in_ok-edits.ensures.joins; sound = c.requires.sound }

pub returns-in_err-effect : goal.returns-in_err-effect
returns-in_err-effect c =
    let p = err_from_is_err_and c.from_residual-in_err-effect.result c.from_residual-in_err-effect.ensures.1 in
    rw p.1 (inl p.2)

pub returns : goal.returns
returns c =
    let d = c.args.document.now in
    back_given c.args.trial c.args.file.now c.args.replica c.args.marks.now (d.world, d.edits) c.args.left.now.edits c.in_ok-world.world c.in_ok-edits.edits.items c.in_ok-effect.effect
    c.requires.left c.in_ok-world.ensures c.in_ok-edits.ensures.taken c.in_ok-effect.ensures
