use Rattle.std.proofs.Common.{◌≡◌, None, Ok, Some}
use Rattle.std.proofs.lemmas.Result.{err_from_is_err_and}
use Rattle.cmd_take.specs.Opening.{FoundReads, IsWritten, NeedsBase, TriedWorld, up_to}
use Rattle.cmd_take.specs.Steps.{Asks, AsksNoMore, Ends, OrMemory, Reads}
use Rattle.cmd_take.proofs.OpenSteps.{found_led, leads_by, missing_led}
use Rattle.cmd_take.proofs.Steps.{read_not}
use Rattle.cmd_take.proofs.open.Open.looked.Goals as goal

pub returns-in_err-tried_world-clause-leads : goal.returns-in_err-tried_world-clause-leads
returns-in_err-tried_world-clause-leads c =
    let p = err_from_is_err_and c.from_residual.result c.from_residual.ensures.1 in
    let same : p.0 ≡ c.in_err-tried_world.field-0.0 = p.2 in
    let s = c.args.self.now in
    let d = c.args.document in
    rw (p.1, same) (read_not TriedWorld (FoundReads (d.world, d.edits) (up_to s.until d.edits) s.file.now s.world.now c.args.text.items) c.args.file c.in_err-tried_world.field-0.0 c.in_err-tried_world.ensures)

pub returns-in-None-clause-leads : goal.returns-in-None-clause-leads
returns-in-None-clause-leads c =
    let s = c.args.self.now in
    let d = c.args.document in
    let es = up_to s.until d.edits in
    let tried : TriedWorld c.args.file (Ok None) = rw c.in-None.is at c.in_ok-tried_world.ensures in
    leads_by s.until s.forcing s.file.now s.world.now _ (λ rest name. Asks s.world.now TriedWorld (NeedsBase (d.world, d.edits) es s.file.now s.world.now) rest name) AsksNoMore
    (λ rest r. OrMemory (Reads TriedWorld (FoundReads (d.world, d.edits) es s.file.now s.world.now c.args.text.items)) rest r)
    (OrMemory (Ends (IsWritten s.world.now (d.world, d.edits) c.args.text.items))) c.done.result
    (missing_led (d.world, d.edits) es s.file.now s.world.now c.args.text.items c.args.file tried) c.done.ensures.leads

pub compared-requires : goal.compared-requires
compared-requires c = c.requires

pub returns-in-Some-clause-leads : goal.returns-in-Some-clause-leads
returns-in-Some-clause-leads c =
    let s = c.args.self.now in
    let d = c.args.document in
    let es = up_to s.until d.edits in
    let w = c.in-Some.found in
    let tried : TriedWorld c.args.file (Ok (Some w)) = rw c.in-Some.is at c.in_ok-tried_world.ensures in
    leads_by s.until s.forcing s.file.now s.world.now _ (λ rest name. Asks s.world.now TriedWorld (NeedsBase (d.world, d.edits) es s.file.now s.world.now) rest name)
    (NeedsBase (d.world, d.edits) es s.file.now s.world.now (Some w)) (λ rest r. OrMemory (Reads TriedWorld (FoundReads (d.world, d.edits) es s.file.now s.world.now c.args.text.items)) rest r)
    (OrMemory (FoundReads (d.world, d.edits) es s.file.now s.world.now c.args.text.items (Some w))) c.compared.result
    (found_led (d.world, d.edits) es s.file.now s.world.now c.args.text.items c.args.file w tried) c.compared.ensures.leads
