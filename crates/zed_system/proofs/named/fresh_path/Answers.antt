use Rattle.std.proofs.Common.{◌<◌, ◌^◌, arith, string_bytes}
use Rattle.zed_system.proofs.Names.{new_path}
use Rattle.zed_system.proofs.named.fresh_path.Goals as goal

pub returns : goal.returns
returns c =
    let process : c.args.process < 2 ^ 64 = omega (arith, c.ranges.process.fits) in
    let seconds : c.args.seconds < 2 ^ 64 = omega (arith, c.ranges.seconds.fits) in
    let rest : c.args.rest < 2 ^ 64 = omega (arith, c.ranges.rest.fits) in
    new_path string_bytes c.args.folder.now c.args.process c.args.seconds c.args.rest c.numbered.result process seconds rest c.numbered.ensures
