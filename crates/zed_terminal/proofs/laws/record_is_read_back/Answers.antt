use Rattle.zed_terminal.proofs.ReadBack.{moves_back, words_back}
use Rattle.zed_terminal.proofs.laws.record_is_read_back.Goals as goal

pub returns : goal.returns
returns c = record { moves = moves_back; words = words_back }
