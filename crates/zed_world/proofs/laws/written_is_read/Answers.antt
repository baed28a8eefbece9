use Rattle.zed_world.specs.Laws.{WrittenIsRead}
use Rattle.zed_world.proofs.WorldAgain.{world_again}
use Rattle.zed_world.proofs.Rewritten.{text_canonical}
use Rattle.zed_world.proofs.laws.written_is_read.Goals as goal

pub returns : goal.returns
returns c =
    let law : WrittenIsRead = world_again c.greedy_is_read.ensures.back in
    record { back = law; canonical = text_canonical law }
