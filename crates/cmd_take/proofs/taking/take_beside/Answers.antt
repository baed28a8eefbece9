use Rattle.std.proofs.Common.{◌≡◌, inl}
use Rattle.std.proofs.lemmas.Result.{err_from_is_err_and}
use Rattle.cmd_take.proofs.Drawing.{beside_ends, beside_no_merge, beside_none, beside_slips}
use Rattle.cmd_take.proofs.taking.take_beside.Goals as goal

pub join_base-requires-clause-sound : goal.join_base-requires-clause-sound
join_base-requires-clause-sound c = c.requires.sound

pub join_base-requires-clause-world : goal.join_base-requires-clause-world
join_base-requires-clause-world c = c.requires.world

pub returns-in_err-join_base : goal.returns-in_err-join_base
returns-in_err-join_base c =
    let p = err_from_is_err_and c.from_residual.result c.from_residual.ensures.1 in
    let same : p.0 ≡ c.in_err-join_base.field-0.0 = p.2 in
    rw (p.1, same) (beside_no_merge c.args.name.now c.args.file.now c.args.replica c.args.forcing c.args.document.now c.args.base.now c.args.world.now c.in_err-join_base.field-0.0 c.in_err-join_base.ensures.err)

pub taken_edits-requires-clause-file : goal.taken_edits-requires-clause-file
taken_edits-requires-clause-file c = c.in_ok-join_base.ensures.sound

pub taken_edits-requires-clause-base : goal.taken_edits-requires-clause-base
taken_edits-requires-clause-base c = c.requires.base

pub returns-in_err-edits : goal.returns-in_err-edits
returns-in_err-edits c =
    let p = err_from_is_err_and c.from_residual-in_err-edits.result c.from_residual-in_err-edits.ensures.1 in
    let same : p.0 ≡ c.in_err-edits.field-0.0 = p.2 in
    rw (p.1, same) (beside_none c.args.name.now c.args.file.now c.args.replica c.args.forcing c.args.document.now c.args.base.now c.join_base.new.document c.args.world.now c.in_err-edits.field-0.0
    c.in_ok-join_base.ensures.ok c.in_err-edits.ensures.taken)

pub told-requires : goal.told-requires
told-requires c = c.requires.base

pub returns-in_err-note : goal.returns-in_err-note
returns-in_err-note c =
    let p = err_from_is_err_and c.from_residual-in_err-note.result c.from_residual-in_err-note.ensures.1 in
    let same : p.0 ≡ c.in_err-note.field-0.0 = p.2 in
    rw (p.1, same) (beside_slips c.args.name.now c.args.file.now c.args.replica c.args.forcing c.args.document.now c.args.base.now c.join_base.new.document c.args.world.now
    c.in_ok-edits.edits.items c.in_err-note.field-0.0 c.in_ok-join_base.ensures.ok c.in_ok-edits.ensures.taken c.in_err-note.ensures)

pub add_to_both-requires : goal.add_to_both-requires
add_to_both-requires c = record {
  fit = c.in_ok-edits.ensures.fit;
  base_joins = c.in_ok-edits.ensures.base_joins;
  base_sound = c.requires.base;
  file_joins = c.in_ok-edits.ensures.file_joins;
  file_sound = c.in_ok-join_base.ensures.sound;
}

pub returns-in_err-effect : goal.returns-in_err-effect
returns-in_err-effect c =
    let p = err_from_is_err_and c.from_residual-in_err-effect.result c.from_residual-in_err-effect.ensures.1 in
    rw p.1 (inl p.2)

pub returns : goal.returns
returns c =
    beside_ends c.args.name.now c.args.file.now c.args.replica c.args.forcing c.args.document.now c.args.base.now c.join_base.new.document c.args.world.now c.in_ok-edits.edits.items
    c.count_of-had.result c.in_ok-note.note.items c.in_ok-effect.effect c.noting.result c.in_ok-join_base.ensures.ok c.in_ok-edits.ensures.taken c.requires.world
    c.in_ok-join_base.ensures.world c.count_of-had.ensures c.in_ok-note.ensures c.in_ok-effect.ensures c.noting.ensures
