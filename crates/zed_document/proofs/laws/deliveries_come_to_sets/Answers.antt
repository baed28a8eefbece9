use Rattle.zed_document.proofs.FirstClash.{deliveries_come_to_sets}
use Rattle.zed_document.proofs.laws.deliveries_come_to_sets.Goals as goal

pub returns : goal.returns
returns c = deliveries_come_to_sets c.set_is_its_edits.ensures.members c.set_is_its_edits.ensures.more
