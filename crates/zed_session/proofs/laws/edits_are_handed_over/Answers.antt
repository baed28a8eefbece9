use Rattle.zed_session.proofs.Gained.{handed_over}
use Rattle.zed_session.proofs.laws.edits_are_handed_over.Goals as goal

pub returns : goal.returns
returns c = handed_over
