use Rattle.std.proofs.Common.{◌≡◌, ◌++◌, take, drop, map}
use Rattle.zed_scene.specs.Removing.{followed}
use Rattle.zed_scene.proofs.removing.follow.Given as goal

abbrev pub invariant-loop-scroll : goal.invariant-loop-scroll
invariant-loop-scroll l = l.scrolls ≡ map (followed l.i) (take l.scroll-index l.initial.scrolls) ++ drop l.scroll-index l.initial.scrolls
