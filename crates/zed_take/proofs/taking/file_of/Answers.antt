use Rattle.std.proofs.Common.{ℕ}
use Rattle.std.specs.Global.{Vec}
use Rattle.zed_take.proofs.Limits.{lacks}
use Rattle.zed_take.proofs.taking.file_of.Goals as goal

pub returns-in-Err-Memory-clause-fine : goal.returns-in-Err-Memory-clause-fine
returns-in-Err-Memory-clause-fine c =
    lacks (λ (file : Vec ℕ). file.items) c.args.base.now (rw c.in-Err-Memory.field-0-is at c.in-Err-Memory.ensures.result)
