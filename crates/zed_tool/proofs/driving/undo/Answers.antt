use Rattle.zed_driver.specs.Hosts.{hosts}
use Rattle.cmd_undo.proofs.Ends.{undo_lacks}
use Rattle.cmd_undo.specs.Undoing.{meaning_of}
use Rattle.zed_tool.specs.Driving.{to_undo}
use Rattle.zed_tool.proofs.Driven.{carried}
use Rattle.zed_tool.proofs.Failing.{drawing_never}
use Rattle.zed_tool.proofs.driving.undo.Goals as goal

pub drive-requires : goal.drive-requires
drive-requires g c = c.new-command.ensures.stands

pub returns : goal.returns
returns g c =
    let steps = c.drive.ensures.drives in
    let driven = c.drive.ensures.driven in
    carried (hosts g.H.Host.contents g.H.Host.called g.H.Host.failed g.H.Host.faults) (to_undo c.args.file.now c.args.replica c.args.manner (meaning_of c.args.source)) c.drive.result _ c.args.host.now _ (drawing_never c.args.file.now)
    (undo_lacks c.args.file.now c.args.manner c.args.replica (meaning_of c.args.source)) c.drawn.ensures
    (rw (c.new-command.ensures.file, c.new-command.ensures.replica, c.new-command.ensures.manner, c.new-command.ensures.source) at steps)
    (rw (c.new-command.ensures.file, c.new-command.ensures.replica, c.new-command.ensures.manner, c.new-command.ensures.source) at driven)
