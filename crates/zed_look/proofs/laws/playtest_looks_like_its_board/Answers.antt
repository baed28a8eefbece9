use Rattle.zed_look.proofs.Opening.{looks_like}
use Rattle.zed_look.proofs.laws.playtest_looks_like_its_board.Goals as goal

pub returns : goal.returns
returns c = record { result = looks_like }
