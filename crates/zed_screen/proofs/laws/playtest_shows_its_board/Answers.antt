use Rattle.zed_screen.proofs.Opening.{playtest_shows}
use Rattle.zed_screen.proofs.laws.playtest_shows_its_board.Goals as goal

pub returns : goal.returns
returns c = record { result = playtest_shows }
