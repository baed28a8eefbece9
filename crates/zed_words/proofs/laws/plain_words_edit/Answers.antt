use Rattle.zed_words.proofs.EditWords.{edit_words}
use Rattle.zed_words.proofs.laws.plain_words_edit.Goals as goal

pub returns : goal.returns
returns c = edit_words
