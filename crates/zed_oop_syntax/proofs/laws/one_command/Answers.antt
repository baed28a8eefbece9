use Rattle.zed_oop_syntax.proofs.CommandThere.{command_there}
use Rattle.zed_oop_syntax.proofs.OneCommand.{command_one}
use Rattle.zed_oop_syntax.proofs.laws.one_command.Goals as goal

pub returns : goal.returns
returns c = record { stands = command_there; alone = command_one }
