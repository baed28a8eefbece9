use Rattle.zed_laws.proofs.Making.{taken_make, late_edit_makes, things_are_of_edits}
use Rattle.zed_laws.proofs.settled.edits_make_all_things.Goals as goal

pub returns : goal.returns
returns c = record { made = taken_make; late = late_edit_makes; stamps = things_are_of_edits }
