use Rattle.zed_op.proofs.SetLaws.{edit_keeps_rising, union_keeps_rising, set_is_rising}
use Rattle.zed_op.proofs.laws.sets_rise.Goals as goal

pub returns : goal.returns
returns c = record { edit = edit_keeps_rising; union = union_keeps_rising; set = set_is_rising }
