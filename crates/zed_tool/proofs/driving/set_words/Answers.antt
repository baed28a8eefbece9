use Rattle.std.proofs.Common.{refl}
use Rattle.zed_driver.specs.Hosts.{hosts}
use Rattle.zed_files.specs.Texts.{texts_of}
use Rattle.zed_tool.specs.Driving.{to_set}
use Rattle.zed_tool.proofs.Driven.{carried}
use Rattle.zed_tool.proofs.Failing.{set_never}
use Rattle.zed_tool.proofs.Lacking.{set_lacks}
use Rattle.zed_tool.proofs.driving.set_words.Goals as goal

pub drive-requires : goal.drive-requires
drive-requires g c = (refl, refl, c.new-command.ensures.document)

pub returns : goal.returns
returns g c =
    let words = texts_of c.args.words.now in
    let steps = c.drive.ensures.drives in
    let driven = c.drive.ensures.driven in
    carried (hosts g.H.Host.contents g.H.Host.called g.H.Host.failed g.H.Host.faults) (to_set c.args.file.now c.args.replica words) c.drive.result _ c.args.host.now _ (set_never words)
    (set_lacks c.args.file.now c.args.replica words) c.set_told.ensures
    (rw (c.new-command.ensures.file, c.new-command.ensures.action, c.new.ensures.replica, c.new.ensures.words) at steps)
    (rw (c.new-command.ensures.file, c.new-command.ensures.action, c.new.ensures.replica, c.new.ensures.words) at driven)
