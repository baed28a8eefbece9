use Rattle.std.proofs.Common.{arith}
use Rattle.zed_code.specs.Kept.{moved}
use Rattle.zed_code.proofs.Rooms.{map_over_at}
use Rattle.zed_code.proofs.blocks.move_places.Goals as goal

pub loop-place-preserved : goal.loop-place-preserved
loop-place-preserved c =
    map_over_at (moved c.args.block) c.args.places.now c.loop-place.places c.loop-place.place-index _ c.move_place.new.place (omega arith) c.loop-place.auto.places c.loop-place.invariant c.move_place.ensures
