use Rattle.std.proofs.Common.{arith}
use Rattle.zed_types.specs.Text.{kill_within}
use Rattle.zed_types.proofs.Facts.{map_over_at}
use Rattle.zed_edit.proofs.text.kill_bytes.Goals as goal

pub loop-x-preserved : goal.loop-x-preserved
loop-x-preserved c =
    map_over_at (kill_within c.args.range) c.args.elements.now c.loop-x.elements c.loop-x.x-index _ c.kill_if.new.element (omega arith) c.loop-x.auto.elements c.loop-x.invariant c.kill_if.ensures
