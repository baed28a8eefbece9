use Rattle.std.proofs.Common.{arith}
use Rattle.zed_edit.specs.Document.{elements}
use Rattle.zed_types.specs.Text.{alive}
use Rattle.zed_document.proofs.Parts.{next-counts, next-fits}
use Rattle.zed_document.proofs.deletion.count_stretches.Goals as goal

pub overflow_add-stretches : goal.overflow_add-stretches
overflow_add-stretches c =
    let most = next-fits c.loop-k.stretches c.loop-k.last c.name_of-name.result c.args.from c.loop-k.k c.args.to (alive (elements c.args.view.now c.args.text)) c.loop-k-test.true c.loop-k.invariant.2 in
    rw c.begun-stretches.ensures (omega (arith, most))

pub loop-k-preserved : goal.loop-k-preserved
loop-k-preserved c =
    let from = c.loop-k.invariant.0 in
    let test = c.loop-k-test.true in
    let more = next-counts c.loop-k.stretches c.loop-k.last c.args.from c.loop-k.k (alive (elements c.args.view.now c.args.text)) c.name_of-name.result c.loop-k.invariant.0 c.loop-k.invariant.2 c.name_of-name.ensures in
    rw c.begun-stretches.ensures (omega (arith, from), omega (arith, test), more)
