use Rattle.zed_op.proofs.SetLaws.{edit_keeps_fit, union_keeps_fit, set_keeps_fit}
use Rattle.zed_op.proofs.laws.sets_stay_fit.Goals as goal

pub returns : goal.returns
returns c = record { edit = edit_keeps_fit; union = union_keeps_fit; set = set_keeps_fit }
