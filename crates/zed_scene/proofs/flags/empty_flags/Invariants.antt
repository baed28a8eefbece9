use Rattle.std.proofs.Common.{◌≡◌, ◌++◌, take, drop}
use Rattle.zed_scene.specs.Flags.{unflagged}
use Rattle.zed_scene.proofs.flags.empty_flags.Given as goal

abbrev pub invariant-loop-f : goal.invariant-loop-f
invariant-loop-f l = l.flags ≡ unflagged l.word (take l.f-index l.initial.flags) ++ drop l.f-index l.initial.flags
