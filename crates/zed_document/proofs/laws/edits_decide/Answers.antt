use Rattle.zed_document.proofs.Merging.{edits_decide, deliveries-make_it, merge-is_deliveries, order-never_counts}
use Rattle.zed_document.proofs.laws.edits_decide.Goals as goal

pub returns-clause-same : goal.returns-clause-same
returns-clause-same c = edits_decide

pub returns-clause-deliveries : goal.returns-clause-deliveries
returns-clause-deliveries c = deliveries-make_it c.set_is_its_edits.ensures.more

pub returns-clause-merges : goal.returns-clause-merges
returns-clause-merges c = merge-is_deliveries c.union_is_of_sets.ensures.sets

pub returns-clause-order : goal.returns-clause-order
returns-clause-order c = order-never_counts c.set_is_its_edits.ensures.order
