use Rattle.zed_set_words.proofs.Cuts.{cut_is}
use Rattle.zed_set_words.proofs.thing.cut.Goals as goal

pub returns : goal.returns
returns c = cut_is c.args.at c.args.word.now c.split_once.result c.split_once.ensures.cases c.requires
