use Rattle.std.proofs.Common.{◌≡◌, ◌≤◌, ◌+◌}
use Rattle.zed_driver.specs.Hosts.{hosts}
use Rattle.zed_driver.specs.Reading.{Follows}
use Rattle.zed_driver.proofs.driving.read_files.Given as goal

-- files were read so far, and the command is what they made of it
abbrev pub invariant-loop : goal.invariant-loop
invariant-loop g l =
    let h = hosts g.H.Host.contents g.H.Host.called g.H.Host.failed g.H.Host.faults in
    record {
      follows : Follows h (g.C.Command.Wants l.fn.command) l.fn.host (λ files mid. (l.host ≡ mid) × g.C.Command.Stands l.fn.command files l.command);
      fewer : g.C.Command.most l.command + l.counter ≤ g.C.Command.most l.fn.command;
    }
