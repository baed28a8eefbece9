use Rattle.std.proofs.Common.{◌≡◌, Err, Some, [], ap, inl}
use Rattle.std.proofs.lemmas.Result.{err_from_is_err_and}
use Rattle.cmd_take.specs.declared.base.Presence.TheVariants.{Optional}
use Rattle.cmd_take.specs.Base.{BaseAsks, BaseReads, beside}
use Rattle.cmd_take.specs.Opening.{FoundReads, IsSaved, IsWritten, NeedsBase, WritesOver, up_to}
use Rattle.cmd_take.specs.Steps.{AsksNoMore, Ends, OrMemory}
use Rattle.cmd_take.proofs.OpenSteps.{drawn_led, leads_by, shown_led}
use Rattle.cmd_take.proofs.open.Open.compared.Goals as goal

pub returns-in_err-is_shown-clause-leads : goal.returns-in_err-is_shown-clause-leads
returns-in_err-is_shown-clause-leads c =
    let p = err_from_is_err_and c.from_residual.result c.from_residual.ensures.1 in
    rw p.1 (inl (ap (λ x. Err x) p.2))

pub returns-then-is_shown-clause-leads : goal.returns-then-is_shown-clause-leads
returns-then-is_shown-clause-leads c =
    let s = c.args.self.now in
    let d = c.args.document in
    let es = up_to s.until d.edits in
    let back : IsSaved es c.as_slice.result.now = rw c.as_slice.ensures.value c.requires.1 in
    let shows = rw c.if-is_shown.true at (c.in_ok-is_shown.ensures.is es back) in
    leads_by s.until s.forcing s.file.now s.world.now [] (NeedsBase (d.world, d.edits) es s.file.now s.world.now (Some c.args.found)) AsksNoMore
    (OrMemory (FoundReads (d.world, d.edits) es s.file.now s.world.now c.args.text.items (Some c.args.found)))
    (OrMemory (Ends (IsWritten s.world.now (d.world, d.edits) c.args.text.items))) c.done.result
    (shown_led (d.world, d.edits) es s.file.now s.world.now c.args.text.items c.args.found shows) c.done.ensures.leads

pub returns-else-is_shown-clause-leads : goal.returns-else-is_shown-clause-leads
returns-else-is_shown-clause-leads c =
    let s = c.args.self.now in
    let d = c.args.document in
    let es = up_to s.until d.edits in
    let back : IsSaved es c.as_slice.result.now = rw c.as_slice.ensures.value c.requires.1 in
    let other = rw c.if-is_shown.false at (c.in_ok-is_shown.ensures.is es back) in
    leads_by s.until s.forcing s.file.now s.world.now [] (NeedsBase (d.world, d.edits) es s.file.now s.world.now (Some c.args.found))
    (BaseAsks Optional (beside s.world.now) s.file.now d.world (λ b. AsksNoMore))
    (OrMemory (FoundReads (d.world, d.edits) es s.file.now s.world.now c.args.text.items (Some c.args.found)))
    (OrMemory (BaseReads Optional (beside s.world.now) s.file.now d.world (λ b. Ends (WritesOver s.world.now (d.world, d.edits) c.args.text.items c.args.found b)))) c.drawn.result
    (drawn_led (d.world, d.edits) es s.file.now s.world.now c.args.text.items c.args.found other) c.drawn.ensures.leads
