use Rattle.zed_laws.proofs.ReplaySteps.{one_more_is_one_step, replay_goes_on, one_more_is_taken, one_more_is_held}
use Rattle.zed_laws.proofs.laws.replay_goes_edit_by_edit.Goals as goal

pub returns : goal.returns
returns c = record { step = one_more_is_one_step; on = replay_goes_on; taken = one_more_is_taken; held = one_more_is_held }
