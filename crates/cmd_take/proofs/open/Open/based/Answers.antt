use Rattle.std.proofs.Common.{◌≡◌, option_map}
use Rattle.std.proofs.lemmas.Result.{err_from_is_err_and}
use Rattle.std.specs.Prelude.{string_bytes}
use Rattle.cmd_take.specs.declared.base.Presence.TheVariants.{Optional}
use Rattle.cmd_take.specs.Base.{BaseOf}
use Rattle.cmd_take.specs.Opening.{IsWritten, WritesOver}
use Rattle.cmd_take.specs.Steps.{Asks, AsksNoMore, Ends, OrMemory, Reads}
use Rattle.cmd_take.proofs.OpenSteps.{based_led, based_not, leads_by}
use Rattle.cmd_take.proofs.Steps.{read_not}
use Rattle.cmd_take.proofs.open.Open.based.Goals as goal

pub returns-in_err-base-clause-leads : goal.returns-in_err-base-clause-leads
returns-in_err-base-clause-leads c =
    let p = err_from_is_err_and c.from_residual.result c.from_residual.ensures.1 in
    let same : p.0 ≡ c.in_err-base.field-0.0 = p.2 in
    let d = c.args.document in
    let why = rw c.world.ensures at c.in_err-base.ensures.read in
    rw (p.1, same) (read_not (BaseOf Optional d.world) (λ o. Ends (WritesOver c.args.self.now.world.now (d.world, d.edits) c.args.text.items c.args.found o)) c.args.file c.in_err-base.field-0.0
    why)

pub returns-in_err-check_found-clause-leads : goal.returns-in_err-check_found-clause-leads
returns-in_err-check_found-clause-leads c =
    let p = err_from_is_err_and c.from_residual-in_err-check_found.result c.from_residual-in_err-check_found.ensures.1 in
    let same : p.0 ≡ c.in_err-check_found.field-0.0 = p.2 in
    let d = c.args.document in
    let is = rw c.world.ensures at c.in_ok-base.ensures.read in
    rw (p.1, same) (based_not (d.world, d.edits) c.args.self.now.world.now c.args.text.items c.args.found c.args.file (option_map (λ b. b.edits) c.in_ok-base.base) c.in_err-check_found.field-0.0
    is c.in_err-check_found.ensures)

pub returns-clause-leads : goal.returns-clause-leads
returns-clause-leads c =
    let s = c.args.self.now in
    let d = c.args.document in
    let is = rw c.world.ensures at c.in_ok-base.ensures.read in
    leads_by s.until s.forcing s.file.now s.world.now _ (λ rest name. Asks (string_bytes c.args.name) (BaseOf Optional d.world) (λ o. AsksNoMore) rest name) AsksNoMore
    (λ rest r. OrMemory (Reads (BaseOf Optional d.world) (λ o. Ends (WritesOver s.world.now (d.world, d.edits) c.args.text.items c.args.found o))) rest r)
    (OrMemory (Ends (IsWritten s.world.now (d.world, d.edits) c.args.text.items))) c.done.result
    (based_led (d.world, d.edits) s.world.now c.args.text.items c.args.found (string_bytes c.args.name) c.args.file (option_map (λ b. b.edits) c.in_ok-base.base) is
    c.in_ok-check_found.ensures) c.done.ensures.leads
