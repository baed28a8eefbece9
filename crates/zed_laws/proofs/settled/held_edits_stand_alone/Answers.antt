use Rattle.zed_laws.proofs.HeldAlone.{held_changes_nothing, held_takes_nothing, held_is_one_more}
use Rattle.zed_laws.proofs.settled.held_edits_stand_alone.Goals as goal

pub returns : goal.returns
returns c = record { content = held_changes_nothing; taken = held_takes_nothing; held = held_is_one_more }
