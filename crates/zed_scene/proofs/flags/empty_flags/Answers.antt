use Rattle.std.proofs.Common.{arith, cond, ℕ, List, []}
use Rattle.std.specs.Str.{bytes_eq}
use Rattle.zed_types.proofs.Facts.{map_over_at}
use Rattle.zed_scene.specs.Flags.{unflagged}
use Rattle.zed_scene.proofs.flags.empty_flags.Goals as goal

pub loop-f-preserved : goal.loop-f-preserved
unfolding unflagged
loop-f-preserved c =
    map_over_at (λ (f : List ℕ). cond (bytes_eq f c.args.word.now) [] f) c.args.flags.now c.loop-f.flags c.loop-f.f-index _ c.empty_if.new.flag (omega arith) c.loop-f.auto.flags c.loop-f.invariant c.empty_if.ensures
