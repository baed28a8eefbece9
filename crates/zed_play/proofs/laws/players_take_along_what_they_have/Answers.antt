use Rattle.zed_play.proofs.Carrying.{edges_take_all, passages_take_all}
use Rattle.zed_play.proofs.laws.players_take_along_what_they_have.Goals as goal

pub returns : goal.returns
returns c = record { passages = passages_take_all; edges = edges_take_all }
