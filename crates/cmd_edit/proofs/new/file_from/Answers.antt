use Rattle.cmd_edit.proofs.Lacking.{taken_so}
use Rattle.cmd_edit.proofs.new.file_from.Goals as goal

pub returns-in-Bytes : goal.returns-in-Bytes
returns-in-Bytes c =
    rw c.in-Bytes.is (taken_so c.args.world c.in-Bytes.bytes c.written_again.result c.first.result
    (rw c.as_slice.ensures at c.written_again.ensures.result) (rw c.as_slice.ensures at c.written_again.ensures.memory_only_when) c.first.ensures)
