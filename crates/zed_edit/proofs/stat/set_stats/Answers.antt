use Rattle.std.proofs.Common.{arith, cond}
use Rattle.zed_types.specs.Names.{same_stat}
use Rattle.zed_types.proofs.Facts.{map_over_at}
use Rattle.zed_edit.specs.declared.plain.Stat.{Stat}
use Rattle.zed_edit.specs.Stat.{set_stat}
use Rattle.zed_edit.proofs.stat.set_stats.Goals as goal

pub loop-x-preserved : goal.loop-x-preserved
loop-x-preserved c =
    map_over_at (λ (y : Stat). cond (same_stat y.id c.args.s) (set_stat c.args.setting y) y) c.args.stats.now c.loop-x.stats c.loop-x.x-index _ c.set_if.new.stat (omega arith) c.loop-x.auto.stats c.loop-x.invariant c.set_if.ensures
