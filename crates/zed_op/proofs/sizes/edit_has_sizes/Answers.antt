use Rattle.zed_op.proofs.RealSizes.{has_sizes}
use Rattle.zed_op.proofs.sizes.edit_has_sizes.Goals as goal

pub returns : goal.returns
returns c = has_sizes c.fit_is_of_parts.ensures c.args.edit.now c.stamp_has_size.ensures c.op_has_sizes.ensures
