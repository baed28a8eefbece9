use Rattle.std.proofs.Common.{◌≡◌}
use Rattle.std.proofs.lemmas.Result.{err_from_is_err_and}
use Rattle.cmd_take.specs.Opening.{LookAsks, OpenComes, OpenWants, Replaces, up_to}
use Rattle.cmd_take.specs.Steps.{OrMemory}
use Rattle.cmd_take.proofs.OpenSteps.{exported_not, leads_by, opened_led, opened_not}
use Rattle.cmd_take.proofs.open.Open.opened.Goals as goal

pub returns-in_err-document-clause-leads : goal.returns-in_err-document-clause-leads
returns-in_err-document-clause-leads c =
    let p = err_from_is_err_and c.from_residual.result c.from_residual.ensures.1 in
    let same : p.0 ≡ c.in_err-document.field-0.0 = p.2 in
    let s = c.args.self.now in
    rw (p.1, same) (opened_not s.until s.forcing s.file.now s.world.now c.args.file c.in_err-document.field-0.0 c.in_err-document.ensures.memory_only_when c.in_err-document.ensures.opened)

pub returns-in_err-text-clause-leads : goal.returns-in_err-text-clause-leads
returns-in_err-text-clause-leads c =
    let p = err_from_is_err_and c.from_residual-in_err-text.result c.from_residual-in_err-text.ensures.1 in
    let same : p.0 ≡ c.in_err-text.field-0.0 = p.2 in
    let s = c.args.self.now in
    let d = c.in_ok-document.document in
    rw (p.1, same) (exported_not s.until s.forcing s.file.now s.world.now c.args.file (d.world, d.edits) c.in_err-text.field-0.0 c.in_ok-document.ensures.there c.in_ok-document.ensures.opened
    c.in_err-text.ensures.exported)

pub begun-requires : goal.begun-requires
begun-requires c = (c.in_ok-document.ensures.sound, c.in_ok-text.ensures.back)

pub returns-clause-leads : goal.returns-clause-leads
returns-clause-leads c =
    let s = c.args.self.now in
    let d = c.in_ok-document.document in
    let es = up_to s.until d.edits in
    leads_by s.until s.forcing s.file.now s.world.now _ (OpenWants s.until s.forcing s.file.now s.world.now) (LookAsks s.forcing (d.world, d.edits) es s.file.now s.world.now)
    (OpenComes s.until s.forcing s.file.now s.world.now) (OrMemory (Replaces s.forcing (d.world, d.edits) es s.file.now s.world.now c.in_ok-text.text.items)) c.begun.result
    (opened_led s.until s.forcing s.file.now s.world.now c.args.file (d.world, d.edits) c.in_ok-text.text.items c.in_ok-document.ensures.there c.in_ok-document.ensures.opened
    c.in_ok-text.ensures.exported) c.begun.ensures.leads
