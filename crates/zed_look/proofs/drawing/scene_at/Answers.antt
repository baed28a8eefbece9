use Rattle.std.proofs.Common.{refl}
use Rattle.zed_look.specs.Drawing.{scene_at}
use Rattle.zed_look.proofs.drawing.scene_at.Goals as goal

pub returns : goal.returns
unfolding scene_at
returns c =
    rw (c.in_play.ensures, c.tile.ensures.result, c.scene_spot-spot.ensures, c.scene_pose-pose.ensures, c.place_of-place.ensures) refl
