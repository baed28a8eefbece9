use Rattle.std.proofs.Common.{◌≡◌, option_map}
use Rattle.std.proofs.lemmas.Result.{err_from_is_err_and}
use Rattle.std.specs.Prelude.{string_bytes}
use Rattle.zed_files.specs.Texts.{text_in}
use Rattle.cmd_take.specs.Base.{BaseOf, presence_of}
use Rattle.cmd_take.specs.Taking.{WorldTakes}
use Rattle.cmd_take.proofs.Files.{both_sound}
use Rattle.cmd_take.proofs.Steps.{read_not}
use Rattle.cmd_take.proofs.TakeSteps.{based_on}
use Rattle.cmd_take.proofs.take.Take.based.Goals as goal

pub returns-in_err-base-clause-leads : goal.returns-in_err-base-clause-leads
returns-in_err-base-clause-leads c =
    let p = err_from_is_err_and c.from_residual.result c.from_residual.ensures.1 in
    let same : p.0 ≡ c.in_err-base.field-0.0 = p.2 in
    let s = c.args.self.now in
    let d = c.args.document in
    let why = rw (c.presence.ensures, c.world.ensures) at c.in_err-base.ensures.read in
    rw (p.1, same) (read_not (BaseOf (presence_of (text_in s.base)) d.world) (WorldTakes (string_bytes c.args.name) s.file.now s.replica s.forcing (d.world, d.edits)) c.args.file c.in_err-base.field-0.0 why)

pub returns-clause-leads : goal.returns-clause-leads
returns-clause-leads c =
    let s = c.args.self.now in
    let d = c.args.document in
    let is = rw (c.presence.ensures, c.world.ensures) at c.in_ok-base.ensures.read in
    let one = rw c.world.ensures at c.in_ok-base.ensures.world in (
      (c.requires, both_sound d.world c.in_ok-base.base c.in_ok-base.ensures.sound one),
      based_on (presence_of (text_in s.base)) s.file.now s.replica s.forcing s.world.now c.args.file (d.world, d.edits) (string_bytes c.args.name) (option_map (λ b. b.edits) c.in_ok-base.base) is,
    )
