use Rattle.std.proofs.Common.{arith, cond}
use Rattle.zed_types.specs.Names.{same_text}
use Rattle.zed_types.specs.Text.{kill}
use Rattle.zed_types.proofs.Facts.{map_over_at}
use Rattle.zed_edit.specs.declared.plain.Text.{Text}
use Rattle.zed_edit.specs.Document.{change_elements}
use Rattle.zed_edit.proofs.text.delete_bytes.Goals as goal

pub loop-x-preserved : goal.loop-x-preserved
loop-x-preserved c =
    map_over_at (λ (y : Text). cond (same_text y.id c.args.t) (change_elements (kill c.args.range) y) y) c.args.texts.now c.loop-x.texts c.loop-x.x-index c.x-item.result c.delete_if.new.text (omega arith) c.loop-x.auto.texts c.loop-x.invariant c.delete_if.ensures
