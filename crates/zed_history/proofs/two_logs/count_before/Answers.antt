use Rattle.std.proofs.Common.{rules, arith, ◌≡◌, false, Some}
use Rattle.std.specs.Prelude.{slice_get}
use Rattle.zed_types.specs.Stamp.{before}
use Rattle.zed_history.proofs.Spots.{get-at}
use Rattle.zed_history.proofs.Walks.{from-drop, below-take}
use Rattle.zed_history.proofs.two_logs.count_before.Goals as goal

pub returns-else-is_before-clause-below : goal.returns-else-is_before-clause-below
returns-else-is_before-clause-below c =
    below-take c.args.stamp c.args.edits.now c.loop-count.count c.requires c.loop-count.invariant.1 c.loop-count.invariant.0

pub returns-else-is_before-clause-above : goal.returns-else-is_before-clause-above
returns-else-is_before-clause-above c =
    let g : slice_get c.args.edits.now c.loop-count.count ≡ Some c.index-edits-count.result =
    get-at c.args.edits.now c.loop-count.count c.index-edits-count.result (omega arith) c.index-edits-count.is in
    let b : before c.index-edits-count.result.stamp c.args.stamp ≡ false = search rules in
    from-drop c.args.stamp c.args.edits.now c.loop-count.count c.requires (rw g b)

pub returns-after-loop-count-clause-below : goal.returns-after-loop-count-clause-below
returns-after-loop-count-clause-below c =
    below-take c.args.stamp c.args.edits.now c.loop-count.count c.requires c.loop-count.invariant.1 c.loop-count.invariant.0
