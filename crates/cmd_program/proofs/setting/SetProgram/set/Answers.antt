use Rattle.std.proofs.Common.{◌≡◌, None}
use Rattle.std.proofs.lemmas.Result.{err_from_is_err_and}
use Rattle.cmd_take.specs.Files.{OpensAs}
use Rattle.cmd_take.specs.Steps.{Ends}
use Rattle.cmd_take.proofs.Steps.{read_not}
use Rattle.cmd_program.specs.Setting.{Sets}
use Rattle.cmd_program.proofs.SetSteps.{set_led, set_not}
use Rattle.cmd_program.proofs.setting.SetProgram.set.Goals as goal

pub returns-in_err-document-clause-leads : goal.returns-in_err-document-clause-leads
returns-in_err-document-clause-leads c =
    let p = err_from_is_err_and c.from_residual.result c.from_residual.ensures.1 in
    let same : p.0 ≡ c.in_err-document.field-0.0 = p.2 in
    let s = c.args.self.now in
    rw (p.1, same) (read_not (OpensAs None) (λ f. Ends (Sets s.file.now s.replica s.board s.stat c.args.program.items f)) c.args.file c.in_err-document.field-0.0 c.in_err-document.ensures.opened)

pub returns-in_err-effect-clause-leads : goal.returns-in_err-effect-clause-leads
returns-in_err-effect-clause-leads c =
    let p = err_from_is_err_and c.from_residual-in_err-effect.result c.from_residual-in_err-effect.ensures.1 in
    let same : p.0 ≡ c.in_err-effect.field-0.0 = p.2 in
    let s = c.args.self.now in
    let d = c.in_ok-document.document in
    let why = rw c.as_slice.ensures.value at c.in_err-effect.ensures in
    rw (p.1, same) (set_not s.file.now s.replica s.board s.stat c.args.file c.args.program.items (d.world, d.edits) c.in_err-effect.field-0.0 c.in_ok-document.ensures.opened why)

pub returns-clause-leads : goal.returns-clause-leads
returns-clause-leads c =
    let s = c.args.self.now in
    let d = c.in_ok-document.document in
    let sets = rw c.as_slice.ensures.value at c.in_ok-effect.ensures in
    set_led s.file.now s.replica s.board s.stat c.args.file c.args.program.items (d.world, d.edits) c.in_ok-effect.effect c.in_ok-document.ensures.opened sets
