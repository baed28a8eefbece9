use Rattle.zed_words.proofs.CheckWords.{check_words}
use Rattle.zed_words.proofs.laws.plain_words_check.Goals as goal

pub returns : goal.returns
returns c = check_words
