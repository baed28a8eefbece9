use Rattle.std.proofs.Common.{◌≡◌, ◌++◌, drop}
use Rattle.zed_types.specs.Text.{run_from}
use Rattle.zed_delivery.specs.Made.{byte_things}
use Rattle.zed_delivery.proofs.made.inserted.Given as goal

-- the bytes so far, with those that are left, are all
abbrev pub invariant-loop-i : goal.invariant-loop-i
invariant-loop-i l =
    l.things.items ++ byte_things l.text (run_from l.stamp l.i (drop l.i l.bytes)) ≡ byte_things l.text (run_from l.stamp 0 l.bytes)
