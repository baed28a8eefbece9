use Rattle.std.proofs.Common.{rules, ◌≡◌, ◌+◌, ◌-◌, add-one, arith}
use Rattle.std.proofs.lemmas.List.Sorted.{IsPartitionPoint-from_clause}
use Rattle.std.specs.Prelude.{not}
use Rattle.zed_types.specs.Stamp.{before}
use Rattle.zed_op.specs.declared.op.Edit.{Edit}
use Rattle.zed_history.proofs.Spots.{at-not-before, behind-on, partitioned, parted-above, parted-below}
use Rattle.zed_history.proofs.place.place_of.Goals as goal

pub returns-clause-above : goal.returns-clause-above
returns-clause-above c =
    let parts = IsPartitionPoint-from_clause (λ (e : Edit). not (before c.args.stamp e.stamp)) c.args.edits.now c.partition_point.result c.partition_point.ensures.partitioned (partitioned c.args.stamp c.args.edits.now c.requires) (λ a r f' called. search rules) in
    parted-above c.args.stamp c.args.edits.now c.partition_point.result parts.1

pub returns-clause-below : goal.returns-clause-below
returns-clause-below c = λ some.
    let parts = IsPartitionPoint-from_clause (λ (e : Edit). not (before c.args.stamp e.stamp)) c.args.edits.now c.partition_point.result c.partition_point.ensures.partitioned (partitioned c.args.stamp c.args.edits.now c.requires) (λ a r f' called. search rules) in
    parted-below c.args.stamp c.args.edits.now c.partition_point.result parts.0 some c.partition_point.ensures.bound

pub returns-then-stands_at-clause-above : goal.returns-then-stands_at-clause-above
returns-then-stands_at-clause-above c =
    let h = c.if-stands_at.ensures in
    rw add-one (behind-on c.args.stamp c.args.edits.now c.args.hint c.requires h.1 h.0)

pub returns-then-stands_at-clause-below : goal.returns-then-stands_at-clause-below
returns-then-stands_at-clause-below c = λ some.
    let h = c.if-stands_at.ensures in
    let q : c.args.hint + 1 - 1 ≡ c.args.hint = omega arith in
    rw q (at-not-before c.args.stamp c.args.edits.now c.args.hint h.1)
