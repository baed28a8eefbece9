use Rattle.zed_laws.proofs.ReplaySteps.{held_are_remembered}
use Rattle.zed_laws.proofs.laws.held_edits_are_remembered.Goals as goal

pub returns : goal.returns
returns c = held_are_remembered
