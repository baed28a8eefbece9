use Rattle.std.proofs.Common.{subst}
use Rattle.zed_world.specs.Contents.{Contents}
use Rattle.zed_world.specs.Normal.{HasNormalParts}
use Rattle.zed_world.proofs.world.World.header.Goals as goal

pub returns-clause-normal : goal.returns-clause-normal
returns-clause-normal c =
    let Parts : Contents → Type 0 = λ w. HasNormalParts w in
    subst Parts c.self.view_is (c.read_is_normal.ensures _ _ c.self.invariant.read)
