use Rattle.std.proofs.Common.{◌≡◌, take}
use Rattle.zed_scene.proofs.copying.copy_all.Given as goal

abbrev pub invariant-loop-string : goal.invariant-loop-string
invariant-loop-string l = l.out ≡ take l.string-index l.strings
