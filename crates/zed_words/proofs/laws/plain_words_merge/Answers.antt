use Rattle.zed_words.proofs.MergeWords.{merge_words}
use Rattle.zed_words.proofs.laws.plain_words_merge.Goals as goal

pub returns : goal.returns
returns c = merge_words
