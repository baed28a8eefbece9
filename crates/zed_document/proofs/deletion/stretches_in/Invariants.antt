use Rattle.std.proofs.Common.{◌≡◌, ◌≤◌}
use Rattle.zed_edit.specs.Document.{elements}
use Rattle.zed_types.specs.Text.{alive}
use Rattle.zed_document.specs.Authoring.{part, stretches}
use Rattle.zed_document.proofs.deletion.stretches_in.Given as goal

-- the stretches of the bytes so far
abbrev pub invariant-loop-k : goal.invariant-loop-k
invariant-loop-k l = (l.from ≤ l.k) × (l.k ≤ l.to) × (l.ranges.items ≡ stretches (part l.from l.k (alive (elements l.view l.text))))
