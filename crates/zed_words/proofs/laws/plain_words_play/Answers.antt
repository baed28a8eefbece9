use Rattle.zed_words.proofs.PlayWords.{play_words}
use Rattle.zed_words.proofs.laws.plain_words_play.Goals as goal

pub returns : goal.returns
returns c = play_words
