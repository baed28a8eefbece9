use Rattle.std.proofs.Common.{refl}
use Rattle.zed_files.specs.Texts.{texts_of}
use Rattle.cmd_save.specs.Made.{saves}
use Rattle.zed_program.proofs.Plain.{files_lack, files_plain, saves_none, saves_plain}
use Rattle.zed_program.proofs.driving.save_files.Goals as goal

pub carried-requires-clause-stands : goal.carried-requires-clause-stands
carried-requires-clause-stands g c = (refl, refl, c.new-command.ensures.count, c.new-command.ensures.gathered)

pub carried-requires-clause-plain : goal.carried-requires-clause-plain
carried-requires-clause-plain g c =
    let limit = c.new-command.result.telling.limit in
    let out = c.new-command.result.telling.out.now in
    files_plain (saves limit out) (texts_of c.new-command.result.names.now) (saves_plain limit out)

pub carried-requires-clause-lacks : goal.carried-requires-clause-lacks
carried-requires-clause-lacks g c =
    let limit = c.new-command.result.telling.limit in
    let out = c.new-command.result.telling.out.now in
    files_lack (saves limit out) (texts_of c.new-command.result.names.now) (saves_none limit out)

pub returns : goal.returns
returns g c =
    let is = c.carried.ensures in
    let so = rw (c.new-command.ensures.names, c.new-command.ensures.telling, c.new-save.ensures.limit, c.new-save.ensures.out, c.limit_of.ensures.result) at is in
    so
