use Rattle.std.proofs.Common.{◌∙◌, ◌++◌, ap, sym}
use Rattle.zed_driver.specs.declared.input.Input.TheVariants.{Bytes}
use Rattle.zed_files.specs.Collected.{CameInto, world_in}
use Rattle.zed_files.proofs.Gathers.{if_lacks, if_read}
use Rattle.zed_files.proofs.telling.taken.Goals as goal

pub returns-in-Bytes-clause-took : goal.returns-in-Bytes-clause-took
returns-in-Bytes-clause-took c = λ es fit came.
    let new = c.read_next.new.gathered in
    if_read c.read_next.result (world_in c.args.gathered.now.feed) c.as_slice.result.now (world_in new.feed) c.args.file (λ more. CameInto (es ++ more) new.feed new.clash) (c.in-Bytes.is ∙ ap Bytes (sym c.as_slice.ensures)) (c.read_next.ensures.took es fit came)

pub returns-in-Bytes-clause-memory_only_when : goal.returns-in-Bytes-clause-memory_only_when
returns-in-Bytes-clause-memory_only_when c =
    if_lacks c.read_next.result (world_in c.args.gathered.now.feed) c.as_slice.result.now c.args.file (c.in-Bytes.is ∙ ap Bytes (sym c.as_slice.ensures)) c.read_next.ensures.memory_only_when
