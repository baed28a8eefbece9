use Rattle.zed_words.proofs.NewWords.{new_words}
use Rattle.zed_words.proofs.laws.plain_words_new.Goals as goal

pub returns : goal.returns
returns c = new_words
