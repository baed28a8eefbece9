use Rattle.std.proofs.Common.{◌≤◌}
use Rattle.zed_edit.specs.Document.{elements}
use Rattle.zed_types.specs.Text.{alive}
use Rattle.zed_document.specs.Authoring.{part}
use Rattle.zed_document.proofs.Counted.{Counts}
use Rattle.zed_document.proofs.deletion.count_stretches.Given as goal

-- the stretches of the bytes so far
abbrev pub invariant-loop-k : goal.invariant-loop-k
invariant-loop-k l = (l.from ≤ l.k) × (l.k ≤ l.to) × Counts l.stretches l.last (part l.from l.k (alive (elements l.view l.text)))
