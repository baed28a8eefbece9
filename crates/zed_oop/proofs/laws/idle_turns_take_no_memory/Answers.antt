use Rattle.zed_oop.proofs.IdleTurns.{ended_takes_none, none_takes_none}
use Rattle.zed_oop.proofs.laws.idle_turns_take_no_memory.Goals as goal

pub returns : goal.returns
returns c = record { ended = ended_takes_none; none = none_takes_none }
