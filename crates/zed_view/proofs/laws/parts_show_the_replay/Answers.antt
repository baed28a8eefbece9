use Rattle.zed_view.proofs.Shown.{replayed_parts_are_shown}
use Rattle.zed_view.proofs.laws.parts_show_the_replay.Goals as goal

pub returns : goal.returns
returns c = replayed_parts_are_shown c.document_shows_the_replay.ensures c.texts_show_the_replay.ensures c.held_edits_are_remembered.ensures
