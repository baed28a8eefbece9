use Rattle.zed_delivery.proofs.ManyArrive.{empty_shows_none}
use Rattle.zed_delivery.proofs.laws.empty_bodies_show_none.Goals as goal

pub returns : goal.returns
returns c = empty_shows_none c.document_shows_its_edits.ensures.none c.texts_show_their_edits.ensures.none
