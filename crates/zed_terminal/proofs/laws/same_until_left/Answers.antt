use Rattle.zed_terminal.proofs.Staying.{same_until_left}
use Rattle.zed_terminal.proofs.laws.same_until_left.Goals as goal

pub returns : goal.returns
returns c = record { result = same_until_left }
