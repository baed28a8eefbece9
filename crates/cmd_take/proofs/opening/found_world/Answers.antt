use Rattle.std.proofs.Common.{◌≡◌, Ok, Some, refl}
use Rattle.std.proofs.lemmas.Result.{err_from_is_err_and}
use Rattle.cmd_take.specs.Files.{IsWorld}
use Rattle.cmd_take.proofs.Steps.{step_ok, step_refused}
use Rattle.cmd_take.proofs.opening.found_world.Goals as goal

pub returns-in_err-world : goal.returns-in_err-world
returns-in_err-world c =
    let p = err_from_is_err_and c.from_residual.result c.from_residual.ensures.1 in
    let same : p.0 ≡ c.in_err-world.field-0.0 = p.2 in
    rw (p.1, same) (step_refused (IsWorld c.args.bytes.now) (λ w r. r ≡ Ok (Some w)) c.in_err-world.field-0.0 c.in_err-world.ensures)

pub returns : goal.returns
returns c = step_ok (IsWorld c.args.bytes.now) (λ w r. r ≡ Ok (Some w)) _ _ c.in_ok-world.ensures refl
