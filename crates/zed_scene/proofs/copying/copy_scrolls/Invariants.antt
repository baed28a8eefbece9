use Rattle.std.proofs.Common.{◌≡◌, take}
use Rattle.zed_scene.proofs.copying.copy_scrolls.Given as goal

abbrev pub invariant-loop-scroll : goal.invariant-loop-scroll
invariant-loop-scroll l = l.out ≡ take l.scroll-index l.scrolls
