use Rattle.zed_delivery.proofs.Calm.{calm_edits_hold_the_same}
use Rattle.zed_delivery.proofs.laws.calm_edits_hold_the_same.Goals as goal

pub returns : goal.returns
returns c = calm_edits_hold_the_same
