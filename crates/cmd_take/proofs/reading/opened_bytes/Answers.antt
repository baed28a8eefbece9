use Rattle.std.proofs.Common.{Ok, refl}
use Rattle.cmd_take.proofs.Files.{opened_not}
use Rattle.cmd_take.proofs.reading.opened_bytes.Goals as goal

pub returns-in-Ok-clause-opened : goal.returns-in-Ok-clause-opened
returns-in-Ok-clause-opened c = let d = c.in-Ok.document in (Ok (d.world, d.edits), c.in-Ok.ensures.opened, refl)

pub returns-in-Err-clause-opened : goal.returns-in-Err-clause-opened
returns-in-Err-clause-opened c =
    opened_not c.args.asked c.args.bytes.now c.in-Err.stop c.drawing_stop.result c.in-Err.ensures.opened c.drawing_stop.ensures
