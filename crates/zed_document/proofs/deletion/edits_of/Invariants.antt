use Rattle.std.proofs.Common.{◌≡◌, ◌+◌, ◌++◌, drop}
use Rattle.zed_document.specs.Authoring.{deletions}
use Rattle.zed_document.proofs.deletion.edits_of.Given as goal

-- the deletions so far, with those of the rest, are all
abbrev pub invariant-loop-range : goal.invariant-loop-range
invariant-loop-range l =
    (l.next ≡ l.time + l.range-index)
    × (l.made.items ++ deletions l.next l.replica l.text (drop l.range-index l.ranges) ≡ deletions l.time l.replica l.text l.ranges)
