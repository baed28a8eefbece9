use Rattle.std.proofs.Common.{◌≡◌, None, []}
use Rattle.std.proofs.lemmas.Result.{err_from_is_err_and}
use Rattle.cmd_take.specs.Opening.{IsWritten, WritesOver}
use Rattle.cmd_take.specs.Steps.{AsksNoMore, Ends, OrMemory}
use Rattle.cmd_take.proofs.OpenSteps.{leads_by, same_led, same_not}
use Rattle.cmd_take.proofs.open.Open.alone.Goals as goal

pub returns-in_err-check_same-clause-leads : goal.returns-in_err-check_same-clause-leads
returns-in_err-check_same-clause-leads c =
    let p = err_from_is_err_and c.from_residual.result c.from_residual.ensures.1 in
    let same : p.0 ≡ c.in_err-check_same.field-0.0 = p.2 in
    let d = c.args.document.now in
    rw (p.1, same) (same_not (d.world, d.edits) c.args.self.now.world.now c.args.text.items c.args.found.now c.in_err-check_same.field-0.0 c.in_err-check_same.ensures.same)

pub returns-clause-leads : goal.returns-clause-leads
returns-clause-leads c =
    let s = c.args.self.now in
    let d = c.args.document.now in
    leads_by s.until s.forcing s.file.now s.world.now [] AsksNoMore AsksNoMore (OrMemory (Ends (WritesOver s.world.now (d.world, d.edits) c.args.text.items c.args.found.now None)))
    (OrMemory (Ends (IsWritten s.world.now (d.world, d.edits) c.args.text.items))) c.done.result
    (same_led (d.world, d.edits) s.world.now c.args.text.items c.args.found.now c.in_ok-check_same.ensures.same) c.done.ensures.leads
