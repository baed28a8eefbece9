use Rattle.zed_delivery.proofs.ManyArrive.{rising_are_apart}
use Rattle.zed_delivery.proofs.laws.rising_edits_are_apart.Goals as goal

pub returns : goal.returns
returns c = rising_are_apart
