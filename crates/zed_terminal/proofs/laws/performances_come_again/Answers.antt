use Rattle.zed_terminal.proofs.Coming.{performances_come_again}
use Rattle.zed_terminal.proofs.laws.performances_come_again.Goals as goal

pub returns : goal.returns
returns c = record { result = performances_come_again }
