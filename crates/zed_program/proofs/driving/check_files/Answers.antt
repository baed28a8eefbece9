use Rattle.std.proofs.Common.{refl}
use Rattle.zed_files.specs.Texts.{texts_of}
use Rattle.cmd_save.specs.Made.{checks}
use Rattle.zed_program.proofs.Plain.{checks_none, checks_plain, files_lack, files_plain}
use Rattle.zed_program.proofs.driving.check_files.Goals as goal

pub carried-requires-clause-stands : goal.carried-requires-clause-stands
carried-requires-clause-stands g c = (refl, refl, c.new-command.ensures.count, c.new-command.ensures.gathered)

pub carried-requires-clause-plain : goal.carried-requires-clause-plain
carried-requires-clause-plain g c =
    let limit = c.new-command.result.telling.limit in
    files_plain (checks limit) (texts_of c.new-command.result.names.now) (checks_plain limit)

pub carried-requires-clause-lacks : goal.carried-requires-clause-lacks
carried-requires-clause-lacks g c =
    let limit = c.new-command.result.telling.limit in
    files_lack (checks limit) (texts_of c.new-command.result.names.now) (checks_none limit)

pub returns : goal.returns
returns g c =
    let is = c.carried.ensures in
    let so = rw (c.new-command.ensures.names, c.new-command.ensures.telling, c.new-check.ensures, c.limit_of.ensures.result) at is in
    so
