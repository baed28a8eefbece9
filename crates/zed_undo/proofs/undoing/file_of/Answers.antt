use Rattle.std.proofs.Common.{ℕ}
use Rattle.std.specs.Global.{Vec}
use Rattle.zed_undo.proofs.Led.{over_shown}
use Rattle.zed_undo.proofs.undoing.file_of.Goals as goal

pub returns-in_ok-check_memory-in-Err : goal.returns-in_ok-check_memory-in-Err
returns-in_ok-check_memory-in-Err c =
    over_shown (λ (file : Vec ℕ). file.items) c.args.document.now c.in-Err.error (rw c.requires at c.in-Err.ensures.result) c.in_ok-check_memory-in-Err.ensures
