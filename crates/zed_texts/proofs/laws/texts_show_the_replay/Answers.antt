use Rattle.zed_texts.proofs.TextsShown.{replayed_texts_are_shown}
use Rattle.zed_texts.proofs.laws.texts_show_the_replay.Goals as goal

pub returns : goal.returns
returns c = replayed_texts_are_shown
