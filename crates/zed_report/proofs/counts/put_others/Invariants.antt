use Rattle.std.proofs.Common.{◌≡◌, ◌++◌, take}
use Rattle.std.specs.List.{flat_map}
use Rattle.zed_report.specs.Counts.{next_author}
use Rattle.zed_report.proofs.counts.put_others.Given as goal

abbrev pub invariant-loop-replica : goal.invariant-loop-replica
invariant-loop-replica l = l.out.items ≡ l.fn.out.items ++ flat_map next_author (take l.replica-index l.replicas)
