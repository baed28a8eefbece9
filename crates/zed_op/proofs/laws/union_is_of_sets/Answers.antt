use Rattle.zed_op.proofs.SetLaws.{union_agrees, union_has_both, union_commutes, union_associates, union_of_its_own, union_of_sets}
use Rattle.zed_op.proofs.laws.union_is_of_sets.Goals as goal

pub returns : goal.returns
returns c = record { agree = union_agrees; members = union_has_both; commutes = union_commutes; associates = union_associates; own = union_of_its_own; sets = union_of_sets }
