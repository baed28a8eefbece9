use Rattle.zed_sides.proofs.Hiding.{later_hides}
use Rattle.zed_sides.proofs.laws.later_writes_hide.Goals as goal

pub returns : goal.returns
returns g c r = later_hides r
