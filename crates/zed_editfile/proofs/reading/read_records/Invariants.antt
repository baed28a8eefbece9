use Rattle.std.proofs.Common.{length}
use Rattle.zed_editfile.specs.Stream.{Gains}
use Rattle.zed_editfile.proofs.reading.read_records.Given as goal

abbrev pub invariant-loop-after : goal.invariant-loop-after
invariant-loop-after l = Gains l.version l.fn.out.items l.out.items l.bytes l.rest

abbrev pub decreases-loop-after : goal.decreases-loop-after
decreases-loop-after l = length l.rest
