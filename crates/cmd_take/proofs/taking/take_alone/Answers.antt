use Rattle.std.proofs.Common.{◌≡◌, inl}
use Rattle.std.proofs.lemmas.Result.{err_from_is_err_and}
use Rattle.cmd_take.proofs.Drawing.{take_ends, take_none, take_slips}
use Rattle.cmd_take.proofs.taking.take_alone.Goals as goal

pub taken_edits-requires : goal.taken_edits-requires
taken_edits-requires c = record { file = c.requires; base = c.requires }

pub returns-in_err-edits : goal.returns-in_err-edits
returns-in_err-edits c =
    let p = err_from_is_err_and c.from_residual.result c.from_residual.ensures.1 in
    let same : p.0 ≡ c.in_err-edits.field-0.0 = p.2 in
    rw (p.1, same) (λ base. take_none base c.args.file.now c.args.replica c.args.forcing c.args.document.now c.args.world.now c.in_err-edits.field-0.0 c.in_err-edits.ensures.taken)

pub told-requires : goal.told-requires
told-requires c = c.requires

pub returns-in_err-note : goal.returns-in_err-note
returns-in_err-note c =
    let p = err_from_is_err_and c.from_residual-in_err-note.result c.from_residual-in_err-note.ensures.1 in
    let same : p.0 ≡ c.in_err-note.field-0.0 = p.2 in
    rw (p.1, same) (λ base. take_slips base c.args.file.now c.args.replica c.args.forcing c.args.document.now c.args.world.now c.in_ok-edits.edits.items c.in_err-note.field-0.0
    c.in_ok-edits.ensures.taken c.in_err-note.ensures)

pub add_alone-requires : goal.add_alone-requires
add_alone-requires c = record { fit = c.in_ok-edits.ensures.fit; joins = c.in_ok-edits.ensures.file_joins; sound = c.requires }

pub returns-in_err-effect : goal.returns-in_err-effect
returns-in_err-effect c =
    let p = err_from_is_err_and c.from_residual-in_err-effect.result c.from_residual-in_err-effect.ensures.1 in
    rw p.1 (λ base. inl p.2)

pub returns : goal.returns
returns c = λ base.
    take_ends base c.args.file.now c.args.replica c.args.forcing c.args.document.now c.args.world.now c.in_ok-edits.edits.items c.count_of-had.result c.in_ok-note.note.items
    c.in_ok-effect.effect c.noting.result c.in_ok-edits.ensures.taken c.count_of-had.ensures c.in_ok-note.ensures c.in_ok-effect.ensures c.noting.ensures
