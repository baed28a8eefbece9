use Rattle.std.proofs.Common.{◌∙◌, ap, rules, arith}
use Rattle.zed_scene.specs.Moving.{pushed_onto}
use Rattle.zed_scene.proofs.Pushing.{pushed_further}
use Rattle.zed_scene.proofs.scene.Scene.+push_within.Goals as goal

pub returns-else-tile-eq0 : goal.returns-else-tile-eq0
returns-else-tile-eq0 t c =
    c.push_onto-else-tile-eq0.ensures
    ∙ (ap (pushed_onto c.args.place c.in-Some.next) c.push_within.ensures
    ∙ pushed_further c.args.reach c.args.place c.in-Some.next c.args.step c.args.self.now (omega arith) (search rules) (search rules) (search rules))
