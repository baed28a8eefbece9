use Rattle.std.proofs.Common.{[], ◌∷◌, rules}
use Rattle.zed_system.specs.Steps.{Create, filling}
use Rattle.zed_system.proofs.Steps.{call_fails, stops_first}
use Rattle.zed_system.proofs.folder.make.Goals as goal

-- no file was made
pub returns-in_err-create-clause-stopped : goal.returns-in_err-create-clause-stopped
returns-in_err-create-clause-stopped g c =
    let stopped = stops_first Create (filling c.args.bytes.now) _ _ c.in_err-create.ensures.asked in
    search rules

-- it wasn't filled
pub returns-clause-stopped : goal.returns-clause-stopped
returns-clause-stopped g c =
    call_fails c.fill.result (Create ∷ []) (filling c.args.bytes.now) _ _ _ c.in_ok-create.ensures.asked c.fill.ensures.stopped
