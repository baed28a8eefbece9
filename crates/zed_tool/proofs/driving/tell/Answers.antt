use Rattle.std.proofs.Common.{refl}
use Rattle.zed_driver.specs.Hosts.{hosts}
use Rattle.zed_files.specs.Texts.{texts_of}
use Rattle.zed_tool.specs.Driving.{to_tell}
use Rattle.zed_tool.proofs.Driven.{carried}
use Rattle.zed_tool.proofs.Failing.{shared_never}
use Rattle.zed_tool.proofs.Lacking.{files_lack}
use Rattle.zed_tool.proofs.driving.tell.Goals as goal

pub drive-requires : goal.drive-requires
drive-requires g c = (refl, refl, c.new-command.ensures.count, c.new-command.ensures.gathered)

pub returns : goal.returns
returns g c =
    let tells = g.T.Telling.tells c.args.telling in
    let names = texts_of c.args.files.now in
    let steps = c.drive.ensures.drives in
    let driven = c.drive.ensures.driven in
    carried (hosts g.H.Host.contents g.H.Host.called g.H.Host.failed g.H.Host.faults) (to_tell tells names) c.drive.result _ c.args.host.now _ shared_never (files_lack tells names c.requires) c.told.ensures
    (rw (c.new-command.ensures.names, c.new-command.ensures.telling) at steps) (rw (c.new-command.ensures.names, c.new-command.ensures.telling) at driven)
