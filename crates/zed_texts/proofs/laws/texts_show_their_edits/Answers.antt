use Rattle.zed_texts.proofs.TextsTake.{none_is_empty, texts_take}
use Rattle.zed_texts.proofs.laws.texts_show_their_edits.Goals as goal

pub returns : goal.returns
returns c = record { none = none_is_empty; takes = texts_take }
