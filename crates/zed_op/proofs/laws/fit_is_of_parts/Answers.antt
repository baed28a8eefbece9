use Rattle.zed_op.proofs.FitParts.{fit_is_each_part}
use Rattle.zed_op.proofs.laws.fit_is_of_parts.Goals as goal

pub returns : goal.returns
returns c = fit_is_each_part
