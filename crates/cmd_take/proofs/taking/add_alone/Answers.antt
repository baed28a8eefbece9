use Rattle.std.proofs.Common.{◌∙◌}
use Rattle.std.proofs.lemmas.Result.{err_from_is_err_and}
use Rattle.cmd_take.proofs.Drawing.{alone_grown}
use Rattle.cmd_take.proofs.taking.add_alone.Goals as goal

pub returns-in_err-stamps : goal.returns-in_err-stamps
returns-in_err-stamps c =
    let p = err_from_is_err_and c.from_residual.result c.from_residual.ensures.1 in
    rw p.1 tt

pub deliver-requires : goal.deliver-requires
deliver-requires c = record { fit = c.requires.fit; joins = c.requires.joins; sound = c.requires.sound }

pub returns-in_err-deliver : goal.returns-in_err-deliver
returns-in_err-deliver c =
    let p = err_from_is_err_and c.from_residual-in_err-deliver.result c.from_residual-in_err-deliver.ensures.1 in
    rw p.1 tt

pub returns : goal.returns
returns c =
    alone_grown c.args.file.now c.args.document.now c.deliver.new.document c.args.edits.items c.args.had c.taken_of-taken.result c.as_str.result.now c.alone_effect.result
    c.in_ok-deliver.ensures.edits c.in_ok-deliver.ensures.world c.taken_of-taken.ensures (c.as_str.ensures.value ∙ c.in_ok-stamps.ensures) c.alone_effect.ensures
