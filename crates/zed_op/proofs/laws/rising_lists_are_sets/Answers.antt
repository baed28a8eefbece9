use Rattle.zed_op.proofs.SetLaws.{rising_agrees, rising_is_its_edits, rising_is_its_set}
use Rattle.zed_op.proofs.laws.rising_lists_are_sets.Goals as goal

pub returns : goal.returns
returns c = record { agree = rising_agrees; known = rising_is_its_edits; own = rising_is_its_set }
