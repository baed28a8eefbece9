use Rattle.std.proofs.Common.{drop}
use Rattle.zed_driver.specs.Hosts.{hosts}
use Rattle.zed_driver.specs.Writes.{BrokeAmong, WroteAll}
use Rattle.zed_driver.proofs.driving.write_files.Given as goal

-- what comes of the rest comes of all
abbrev pub invariant-loop-file : goal.invariant-loop-file
invariant-loop-file g l =
    let h = hosts g.H.Host.contents g.H.Host.called g.H.Host.failed g.H.Host.faults in
    record {
      wrote : (new : _) → WroteAll h (drop l.file-index l.files) l.host new → WroteAll h l.files l.fn.host new;
      broke : (new : _) → BrokeAmong h (drop l.file-index l.files) l.host new → BrokeAmong h l.files l.fn.host new;
    }
