use Rattle.zed_driver.specs.Hosts.{hosts}
use Rattle.zed_files.specs.Texts.{text_in}
use Rattle.zed_tool.specs.Driving.{to_take}
use Rattle.zed_tool.proofs.Drawing.{take_lacks}
use Rattle.zed_tool.proofs.Driven.{carried}
use Rattle.zed_tool.proofs.Failing.{drawing_never}
use Rattle.zed_tool.proofs.driving.take_world.Goals as goal

pub drive-requires : goal.drive-requires
drive-requires g c = c.new-command.ensures.stands

pub returns : goal.returns
returns g c =
    let steps = c.drive.ensures.drives in
    let driven = c.drive.ensures.driven in
    carried (hosts g.H.Host.contents g.H.Host.called g.H.Host.failed g.H.Host.faults) (to_take (text_in c.args.base) c.args.forcing c.args.file.now c.args.replica c.args.world.now) c.drive.result _ c.args.host.now _ (drawing_never c.args.file.now)
    (take_lacks (text_in c.args.base) c.args.forcing c.args.file.now c.args.replica c.args.world.now) c.drawn.ensures
    (rw (c.new-command.ensures.base, c.new-command.ensures.forcing, c.new-command.ensures.file, c.new-command.ensures.replica, c.new-command.ensures.world) at steps)
    (rw (c.new-command.ensures.base, c.new-command.ensures.forcing, c.new-command.ensures.file, c.new-command.ensures.replica, c.new-command.ensures.world) at driven)
