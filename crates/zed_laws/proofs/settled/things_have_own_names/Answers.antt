use Rattle.zed_laws.proofs.OwnNames.{boards_have_own_names, stats_have_own_names, texts_have_own_names}
use Rattle.zed_laws.proofs.settled.things_have_own_names.Goals as goal

pub returns : goal.returns
returns c = record { boards = boards_have_own_names; stats = stats_have_own_names; texts = texts_have_own_names }
