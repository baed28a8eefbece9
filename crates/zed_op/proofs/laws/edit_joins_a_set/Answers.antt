use Rattle.zed_op.proofs.SetLaws.{edit_agrees, edit_is_added, edit_there_is_nothing, edit_has_its_place, latest_goes_last}
use Rattle.zed_op.proofs.laws.edit_joins_a_set.Goals as goal

pub returns : goal.returns
returns c = record { agree = edit_agrees; members = edit_is_added; there = edit_there_is_nothing; place = edit_has_its_place; last = latest_goes_last }
