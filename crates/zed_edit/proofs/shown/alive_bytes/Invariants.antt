use Rattle.std.proofs.Common.{◌≡◌, ◌++◌, drop}
use Rattle.zed_types.specs.Text.{alive_bytes}
use Rattle.zed_edit.proofs.shown.alive_bytes.Given as goal

abbrev pub invariant-loop-x : goal.invariant-loop-x
invariant-loop-x l = l.bytes.items ++ alive_bytes (drop l.x-index l.elements) ≡ alive_bytes l.elements
