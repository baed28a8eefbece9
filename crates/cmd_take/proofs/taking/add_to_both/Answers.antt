use Rattle.std.proofs.Common.{◌∙◌}
use Rattle.std.proofs.lemmas.Result.{err_from_is_err_and}
use Rattle.cmd_take.proofs.Drawing.{both_grown}
use Rattle.cmd_take.proofs.taking.add_to_both.Goals as goal

pub deliver_copies-requires-clause-fit : goal.deliver_copies-requires-clause-fit
deliver_copies-requires-clause-fit c = c.requires.fit

pub deliver_copies-requires-clause-joins : goal.deliver_copies-requires-clause-joins
deliver_copies-requires-clause-joins c = c.requires.base_joins

pub deliver_copies-requires-clause-sound : goal.deliver_copies-requires-clause-sound
deliver_copies-requires-clause-sound c = c.requires.base_sound

pub returns-in_err-stamps : goal.returns-in_err-stamps
returns-in_err-stamps c =
    let p = err_from_is_err_and c.from_residual.result c.from_residual.ensures.1 in
    rw p.1 tt

pub returns-in_err-deliver_copies : goal.returns-in_err-deliver_copies
returns-in_err-deliver_copies c =
    let p = err_from_is_err_and c.from_residual-in_err-deliver_copies.result c.from_residual-in_err-deliver_copies.ensures.1 in
    rw p.1 tt

pub deliver-requires-clause-fit : goal.deliver-requires-clause-fit
deliver-requires-clause-fit c = c.requires.fit

pub deliver-requires-clause-joins : goal.deliver-requires-clause-joins
deliver-requires-clause-joins c = c.requires.file_joins

pub deliver-requires-clause-sound : goal.deliver-requires-clause-sound
deliver-requires-clause-sound c = c.requires.file_sound

pub returns-in_err-deliver : goal.returns-in_err-deliver
returns-in_err-deliver c =
    let p = err_from_is_err_and c.from_residual-in_err-deliver.result c.from_residual-in_err-deliver.ensures.1 in
    rw p.1 tt

pub returns : goal.returns
returns c =
    both_grown c.args.name.now c.args.file.now c.args.base.now c.args.document.now c.deliver_copies.new.base c.deliver.new.document c.args.edits.items c.count_of-base_had.result
    c.args.file_had c.taken_of-taken.result c.as_str.result.now c.beside_effect.result c.in_ok-deliver_copies.ensures.edits c.in_ok-deliver_copies.ensures.world c.in_ok-deliver.ensures.edits
    c.in_ok-deliver.ensures.world c.count_of-base_had.ensures c.taken_of-taken.ensures (c.as_str.ensures.value ∙ c.in_ok-stamps.ensures) c.beside_effect.ensures
