use Rattle.std.proofs.Common.{arith}
use Rattle.zed_types.proofs.Facts.{map_over_at}
use Rattle.zed_scene.specs.Removing.{followed}
use Rattle.zed_scene.proofs.removing.follow.Goals as goal

pub loop-scroll-preserved : goal.loop-scroll-preserved
loop-scroll-preserved c =
    map_over_at (followed c.args.i) c.args.scrolls.now c.loop-scroll.scrolls c.loop-scroll.scroll-index _ c.follow_one.new.scroll (omega arith) c.loop-scroll.auto.scrolls c.loop-scroll.invariant c.follow_one.ensures
