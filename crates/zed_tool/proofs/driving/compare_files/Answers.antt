use Rattle.std.proofs.Common.{refl}
use Rattle.zed_driver.specs.Hosts.{hosts}
use Rattle.cmd_compare.proofs.Ends.{compare_lacks}
use Rattle.zed_tool.specs.Driving.{to_compare}
use Rattle.zed_tool.proofs.Driven.{carried}
use Rattle.zed_tool.proofs.Failing.{shared_never}
use Rattle.zed_tool.proofs.driving.compare_files.Goals as goal

pub drive-requires : goal.drive-requires
drive-requires g c = (refl, refl, refl, c.new-command.ensures.stands)

pub returns : goal.returns
returns g c =
    let steps = c.drive.ensures.drives in
    let driven = c.drive.ensures.driven in
    carried (hosts g.H.Host.contents g.H.Host.called g.H.Host.failed g.H.Host.faults) (to_compare c.args.strictness c.args.mine.now c.args.theirs.now) c.drive.result _ c.args.host.now _ shared_never
    (compare_lacks c.args.strictness) c.told.ensures
    (rw (c.new-command.ensures.strictness, c.new-command.ensures.mine, c.new-command.ensures.theirs) at steps)
    (rw (c.new-command.ensures.strictness, c.new-command.ensures.mine, c.new-command.ensures.theirs) at driven)
