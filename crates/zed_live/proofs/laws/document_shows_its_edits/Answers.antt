use Rattle.zed_live.proofs.DocumentTakes.{none_is_empty, document_takes}
use Rattle.zed_live.proofs.laws.document_shows_its_edits.Goals as goal

pub returns-clause-none : goal.returns-clause-none
returns-clause-none c = none_is_empty

pub returns-clause-takes : goal.returns-clause-takes
returns-clause-takes c = document_takes c.read_is_normal.ensures c.cells_hold_the_latest.ensures c.fields_hold_the_latest.ensures
