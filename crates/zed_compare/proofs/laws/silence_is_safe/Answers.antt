use Rattle.zed_compare.proofs.Silent.{silence_is_safe}
use Rattle.zed_compare.proofs.laws.silence_is_safe.Goals as goal

pub returns : goal.returns
returns c = silence_is_safe
