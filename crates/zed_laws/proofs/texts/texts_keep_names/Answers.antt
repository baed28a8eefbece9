use Rattle.zed_laws.proofs.MadeElements.{elements_are_of_edits, texts_are_of_edits}
use Rattle.zed_laws.proofs.NamedElements.{elements_have_own_names}
use Rattle.zed_laws.proofs.texts.texts_keep_names.Goals as goal

pub returns : goal.returns
returns c = record { own = elements_have_own_names; elements = elements_are_of_edits; texts = texts_are_of_edits }
