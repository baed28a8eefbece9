use Rattle.zed_driver.specs.Hosts.{hosts}
use Rattle.zed_program.proofs.Under.{carried_not, carried_well}
use Rattle.zed_program.proofs.driving.carried.Goals as goal

pub returns-in-Ok : goal.returns-in-Ok
returns-in-Ok g c =
    carried_well (hosts g.H.Host.contents g.H.Host.called g.H.Host.failed g.H.Host.faults) (g.C.Command.Wants c.args.command.now) (g.C.Command.Comes c.args.command.now) _ c.args.host.now _ c.requires.plain c.in-Ok.ensures.drives c.in-Ok.ensures.driven

pub returns-in-Err : goal.returns-in-Err
returns-in-Err g c =
    rw c.from.ensures (carried_not (hosts g.H.Host.contents g.H.Host.called g.H.Host.failed g.H.Host.faults) (g.C.Command.Wants c.args.command.now) (g.C.Command.Comes c.args.command.now) c.in-Err.stop c.args.host.now _ c.requires.lacks c.in-Err.ensures.drives c.in-Err.ensures.driven)
