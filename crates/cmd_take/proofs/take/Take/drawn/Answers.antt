use Rattle.std.proofs.Common.{◌≡◌, option_map}
use Rattle.std.proofs.lemmas.Result.{err_from_is_err_and}
use Rattle.std.specs.Prelude.{string_bytes}
use Rattle.cmd_take.specs.Files.{ReadsAs}
use Rattle.cmd_take.specs.Steps.{Ends}
use Rattle.cmd_take.specs.Taking.{Takes, given}
use Rattle.cmd_take.proofs.Steps.{read_not}
use Rattle.cmd_take.proofs.TakeSteps.{drawn_not, drawn_on}
use Rattle.cmd_take.proofs.take.Take.drawn.Goals as goal

pub returns-in_err-world-clause-leads : goal.returns-in_err-world-clause-leads
returns-in_err-world-clause-leads c =
    let p = err_from_is_err_and c.from_residual.result c.from_residual.ensures.1 in
    let same : p.0 ≡ c.in_err-world.field-0.0 = p.2 in
    let s = c.args.self.now in
    let d = c.args.document in
    let b = option_map (λ o. o.edits) c.args.base in
    rw (p.1, same) (read_not ReadsAs (λ w. Ends (Takes (string_bytes c.args.name) s.file.now s.replica s.forcing (given (d.world, d.edits) b w))) c.args.file c.in_err-world.field-0.0 c.in_err-world.ensures)

pub take_world-requires : goal.take_world-requires
take_world-requires c = record { sound = c.requires.0; base = c.requires.1 }

pub returns-in_err-effect-clause-leads : goal.returns-in_err-effect-clause-leads
returns-in_err-effect-clause-leads c =
    let p = err_from_is_err_and c.from_residual-in_err-effect.result c.from_residual-in_err-effect.ensures.1 in
    let same : p.0 ≡ c.in_err-effect.field-0.0 = p.2 in
    let s = c.args.self.now in
    let d = c.args.document in
    let why = rw c.as_str.ensures.value at c.in_err-effect.ensures in
    rw (p.1, same) (drawn_not (string_bytes c.args.name) s.file.now s.replica s.forcing c.args.file (d.world, d.edits) (option_map (λ o. o.edits) c.args.base) c.in_ok-world.world c.in_err-effect.field-0.0
    c.in_ok-world.ensures why)

pub returns-clause-leads : goal.returns-clause-leads
returns-clause-leads c =
    let s = c.args.self.now in
    let d = c.args.document in
    let draws = rw c.as_str.ensures.value at c.in_ok-effect.ensures in (
      tt,
      drawn_on (string_bytes c.args.name) s.file.now s.replica s.forcing s.world.now c.args.file (d.world, d.edits) (option_map (λ o. o.edits) c.args.base) c.in_ok-world.world c.in_ok-effect.effect
          c.in_ok-world.ensures draws,
    )
