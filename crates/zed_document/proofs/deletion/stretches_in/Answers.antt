use Rattle.std.proofs.Common.{◌∙◌, ap, arith, sym}
use Rattle.zed_edit.specs.Document.{elements}
use Rattle.zed_types.specs.Text.{alive}
use Rattle.zed_document.specs.Stretches.{with_last}
use Rattle.zed_document.proofs.Parts.{next-stretches}
use Rattle.zed_document.proofs.deletion.stretches_in.Goals as goal

pub loop-k-preserved : goal.loop-k-preserved
loop-k-preserved c =
    let from = c.loop-k.invariant.0 in
    let test = c.loop-k-test.true in
    let more = next-stretches c.args.from c.loop-k.k (alive (elements c.args.view.now c.args.text)) c.name_of.result c.loop-k.invariant.0 c.name_of.ensures in
    let made = c.in_ok-add_name.ensures ∙ ap (λ rs. with_last rs c.name_of.result) c.loop-k.invariant.2 ∙ sym more in
    (omega (arith, from), omega (arith, test), made)
