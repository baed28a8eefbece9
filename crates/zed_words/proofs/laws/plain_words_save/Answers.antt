use Rattle.zed_words.proofs.SaveWords.{save_words}
use Rattle.zed_words.proofs.laws.plain_words_save.Goals as goal

pub returns : goal.returns
returns c = save_words
