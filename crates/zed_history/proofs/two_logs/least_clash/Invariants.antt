use Rattle.std.proofs.Common.{◌≡◌, drop, take}
use Rattle.std.specs.List.{AllByRecursion}
use Rattle.zed_op.specs.Set.{IsRising}
use Rattle.zed_history.specs.Finding.{edit_with}
use Rattle.zed_history.proofs.Clashing.{IsFine}
use Rattle.zed_history.proofs.two_logs.least_clash.Given as goal

-- what is left of the own log serves for what is left of the other, and what is behind of the other doesn't clash
abbrev pub invariant-loop-edit : goal.invariant-loop-edit
invariant-loop-edit l =
    IsRising l.rest
    × AllByRecursion (λ f. edit_with f.stamp l.rest ≡ edit_with f.stamp l.own) (drop l.edit-index l.other)
    × AllByRecursion (IsFine l.own) (take l.edit-index l.other)
