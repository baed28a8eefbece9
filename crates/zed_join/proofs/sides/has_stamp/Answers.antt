use Rattle.std.proofs.Common.{◌∙◌}
use Rattle.zed_join.proofs.Spots.{spot_tells}
use Rattle.zed_join.proofs.sides.has_stamp.Goals as goal

pub returns : goal.returns
returns c = c.is_ok.ensures.value ∙ spot_tells c.args.stamp c.args.edits.now c.spot_of.result c.spot_of.ensures.there c.spot_of.ensures.free
