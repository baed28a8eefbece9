use Rattle.std.proofs.Common.{◌≡◌, ◌≤◌, ◌<◌, ◌-◌, true, length}
use Rattle.std.specs.Prelude.{slice_get, IfSome}
use Rattle.zed_types.specs.Stamp.{before}
use Rattle.zed_history.proofs.two_logs.count_before.Given as goal

abbrev pub invariant-loop-count : goal.invariant-loop-count
invariant-loop-count l =
    (l.count ≤ length l.edits) × (0 < l.count → IfSome (slice_get l.edits (l.count - 1)) (λ e. before e.stamp l.stamp ≡ true))

abbrev pub decreases-loop-count : goal.decreases-loop-count
decreases-loop-count l = length l.edits - l.count
