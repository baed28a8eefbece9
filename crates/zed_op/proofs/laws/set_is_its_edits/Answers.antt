use Rattle.zed_op.proofs.SetLaws.{set_has_its_edits, set_is_of_any_order, set_grows_by_edits}
use Rattle.zed_op.proofs.laws.set_is_its_edits.Goals as goal

pub returns : goal.returns
returns c = record { members = set_has_its_edits; order = set_is_of_any_order; more = set_grows_by_edits }
