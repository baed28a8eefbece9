use Rattle.zed_laws.proofs.EarlierThings.{earlier_is_made_before, earlier_decide}
use Rattle.zed_laws.proofs.settled.earlier_edits_decide.Goals as goal

pub returns : goal.returns
returns c = record { made = earlier_is_made_before; can = earlier_decide }
