use Rattle.std.proofs.Common.{◌≡◌}
use Rattle.std.proofs.lemmas.Result.{err_from_is_err_and}
use Rattle.cmd_program.proofs.SetSteps.{read_led, read_not}
use Rattle.cmd_program.proofs.setting.SetProgram.read.Goals as goal

pub returns-in_err-program-clause-leads : goal.returns-in_err-program-clause-leads
returns-in_err-program-clause-leads c =
    let p = err_from_is_err_and c.from_residual.result c.from_residual.ensures.1 in
    let same : p.0 ≡ c.in_err-program.field-0.0 = p.2 in
    let s = c.args.self.now in
    rw (p.1, same) (read_not s.file.now s.replica s.board s.stat c.args.file c.in_err-program.field-0.0 c.requires c.in_err-program.ensures.memory_only_when
    c.in_err-program.ensures.read)

pub returns-clause-leads : goal.returns-clause-leads
returns-clause-leads c =
    let s = c.args.self.now in
    read_led s.file.now s.replica s.board s.stat s.text.now c.args.file c.in_ok-program.program.items c.requires c.in_ok-program.ensures.there c.in_ok-program.ensures.read
