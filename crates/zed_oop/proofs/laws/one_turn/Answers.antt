use Rattle.zed_oop.proofs.OneTurn.{turn_one}
use Rattle.zed_oop.proofs.TurnThere.{turn_there}
use Rattle.zed_oop.proofs.laws.one_turn.Goals as goal

pub returns : goal.returns
returns c = record { stands = turn_there; alone = turn_one }
