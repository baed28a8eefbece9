use Rattle.std.proofs.Common.{◌≡◌, ◌++◌, take, drop, map}
use Rattle.zed_scene.specs.Removing.{renumbered}
use Rattle.zed_scene.proofs.removing.renumber.Given as goal

abbrev pub invariant-loop-a : goal.invariant-loop-a
invariant-loop-a l = l.stats ≡ map (renumbered l.i) (take l.a-index l.initial.stats) ++ drop l.a-index l.initial.stats
