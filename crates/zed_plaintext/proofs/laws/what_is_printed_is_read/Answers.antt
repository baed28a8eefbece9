use Rattle.zed_plaintext.proofs.Again.{again}
use Rattle.zed_plaintext.proofs.laws.what_is_printed_is_read.Goals as goal

pub returns : goal.returns
returns c = again
