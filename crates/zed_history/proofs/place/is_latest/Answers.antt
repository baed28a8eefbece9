use Rattle.std.proofs.Common.{◌≡◌, ◌-◌, Some, length, rules}
use Rattle.std.specs.Prelude.{slice_get}
use Rattle.zed_types.specs.Stamp.{before}
use Rattle.zed_history.proofs.Opened.{latest}
use Rattle.zed_history.proofs.place.is_latest.Goals as goal

pub returns-in-Some : goal.returns-in-Some
returns-in-Some c =
    let at : slice_get c.args.log.now (length c.args.log.now - 1) ≡ Some c.in-Some.last.now = search rules in
    let is : c.is_before.result ≡ before c.in-Some.last.now.stamp c.args.stamp = search rules in
    latest c.is_before.result c.args.stamp c.args.log.now c.in-Some.last.now c.requires at is
