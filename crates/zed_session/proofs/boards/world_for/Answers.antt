use Rattle.std.proofs.Common.{◌≡◌, false, rules}
use Rattle.zed_session.proofs.Given.{lack_shown}
use Rattle.zed_session.proofs.boards.world_for.Goals as goal

-- memory was lacking
pub returns-in-Err-Memory : goal.returns-in-Err-Memory
returns-in-Err-Memory c =
    let d = c.args.document.now in
    let sound : d.is_stale ≡ false = search rules in
    record { result = lack_shown c.args.limit d c.args.board c.lack.result sound c.lack.ensures (rw c.in-Err-Memory.field-0-is at c.in-Err-Memory.ensures.result) }
