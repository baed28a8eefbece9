use Rattle.zed_texts.proofs.TextsTake.{texts_are_ready}
use Rattle.zed_texts.proofs.laws.texts_are_ready.Goals as goal

pub returns : goal.returns
returns c = texts_are_ready
