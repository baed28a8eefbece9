use Rattle.zed_oop.proofs.TurnFront.{turn_front}
use Rattle.zed_oop.proofs.laws.first_words_are_used.Goals as goal

pub returns : goal.returns
returns c = record { result = turn_front }
