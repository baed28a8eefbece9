use Rattle.zed_driver.specs.Hosts.{hosts}
use Rattle.zed_driver.proofs.Ends.{driven}
use Rattle.zed_driver.proofs.driving.drive.Goals as goal

pub returns-clause-driven : goal.returns-clause-driven
returns-clause-driven g c =
    let h = hosts g.H.Host.contents g.H.Host.called g.H.Host.failed g.H.Host.faults in
    driven h (g.C.Command.Wants c.args.command.now) (g.C.Command.Comes c.args.command.now) c.run.result c.args.host.now c.run.new.host c.run.ensures
