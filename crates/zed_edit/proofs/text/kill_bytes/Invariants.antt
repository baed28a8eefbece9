use Rattle.std.proofs.Common.{◌≡◌, ◌++◌, take, drop}
use Rattle.zed_types.specs.Text.{kill}
use Rattle.zed_edit.proofs.text.kill_bytes.Given as goal

abbrev pub invariant-loop-x : goal.invariant-loop-x
invariant-loop-x l = l.elements ≡ kill l.range (take l.x-index l.initial.elements) ++ drop l.x-index l.initial.elements
