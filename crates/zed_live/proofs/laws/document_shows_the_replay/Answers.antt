use Rattle.zed_live.proofs.DocumentTakes.{replayed_document_is_shown}
use Rattle.zed_live.proofs.laws.document_shows_the_replay.Goals as goal

pub returns : goal.returns
returns c = replayed_document_is_shown c.read_is_normal.ensures
