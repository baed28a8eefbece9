use Rattle.zed_oop.proofs.OneTurn.{turn_one}
use Rattle.zed_oop.proofs.TurnThere.{turn_there}
use Rattle.zed_play.proofs.StepThere.{step_there}
use Rattle.zed_play.proofs.Uniqueness.{step_one}
use Rattle.zed_play.proofs.laws.step_has_one_outcome.Goals as goal

pub returns : goal.returns
returns c = record { stands = step_there turn_there; alone = step_one turn_one }
