use Rattle.zed_sides.proofs.Latests.{union_has_the_later}
use Rattle.zed_sides.proofs.laws.union_shows_the_later.Goals as goal

pub returns : goal.returns
returns g c r = union_has_the_later r
