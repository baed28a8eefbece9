use Rattle.std.proofs.Common.{refl}
use Rattle.zed_words.specs.Commands.{command_of}
use Rattle.zed_words.proofs.words.stored_command.Goals as goal

pub returns : goal.returns
unfolding command_of
returns c = rw c.in_ok-files.ensures.items refl
