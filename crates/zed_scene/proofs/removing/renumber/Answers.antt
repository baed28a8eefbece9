use Rattle.std.proofs.Common.{arith}
use Rattle.zed_types.proofs.Facts.{map_over_at}
use Rattle.zed_scene.specs.Removing.{renumbered}
use Rattle.zed_scene.proofs.removing.renumber.Goals as goal

pub loop-a-preserved : goal.loop-a-preserved
loop-a-preserved c =
    map_over_at (renumbered c.args.i) c.args.stats.now c.loop-a.stats c.loop-a.a-index _ c.renumber_one.new.a (omega arith) c.loop-a.auto.stats c.loop-a.invariant c.renumber_one.ensures
