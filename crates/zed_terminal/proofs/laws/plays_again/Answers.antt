use Rattle.zed_terminal.proofs.Again.{plays_again}
use Rattle.zed_terminal.proofs.laws.plays_again.Goals as goal

pub returns : goal.returns
returns c = record { result = plays_again }
