use Rattle.zed_play.proofs.Front.{front_step}
use Rattle.zed_play.proofs.laws.later_words_do_not_matter.Goals as goal

pub returns : goal.returns
returns c = record { result = front_step }
