use Rattle.cmd_set.proofs.Again.{printed_sets_the_same, printed_wishes_its_op}
use Rattle.cmd_set.proofs.laws.printed_settings_set_the_same.Goals as goal

pub returns-clause-op : goal.returns-clause-op
returns-clause-op c = printed_wishes_its_op

pub returns-clause-edit : goal.returns-clause-edit
returns-clause-edit c = printed_sets_the_same
