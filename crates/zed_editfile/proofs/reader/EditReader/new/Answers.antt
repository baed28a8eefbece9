use Rattle.zed_editfile.proofs.Found.{begins, reads_nothing}
use Rattle.zed_editfile.proofs.reader.EditReader.new.Goals as goal

pub invariant_of-result : goal.invariant_of-result
invariant_of-result c = λ same. rw c.new.ensures.items (begins c.args.asked)

pub returns-clause-reads : goal.returns-clause-reads
returns-clause-reads c = rw c.new.ensures.items (reads_nothing c.args.asked)
