use Rattle.zed_oop_syntax.proofs.OneCondition.{query_one, query_there}
use Rattle.zed_oop_syntax.proofs.laws.one_condition.Goals as goal

pub returns : goal.returns
returns c = record { stands = query_there; alone = query_one }
