use Rattle.zed_driver.specs.Hosts.{hosts}
use Rattle.zed_tool.specs.Driving.{to_set_program}
use Rattle.zed_tool.proofs.Drawing.{program_lacks}
use Rattle.zed_tool.proofs.Driven.{carried}
use Rattle.zed_tool.proofs.Failing.{drawing_never}
use Rattle.zed_tool.proofs.driving.set_program.Goals as goal

pub drive-requires : goal.drive-requires
drive-requires g c = c.new-command.ensures.stands

pub returns : goal.returns
returns g c =
    let steps = c.drive.ensures.drives in
    let driven = c.drive.ensures.driven in
    carried (hosts g.H.Host.contents g.H.Host.called g.H.Host.failed g.H.Host.faults) (to_set_program c.args.file.now c.args.replica c.args.board c.args.stat c.args.text.now) c.drive.result _ c.args.host.now _ (drawing_never c.args.text.now)
    (program_lacks c.args.file.now c.args.replica c.args.board c.args.stat) c.drawn.ensures
    (rw (c.new-command.ensures.file, c.new-command.ensures.replica, c.new-command.ensures.board, c.new-command.ensures.stat, c.new-command.ensures.text) at steps)
    (rw (c.new-command.ensures.file, c.new-command.ensures.replica, c.new-command.ensures.board, c.new-command.ensures.stat, c.new-command.ensures.text) at driven)
