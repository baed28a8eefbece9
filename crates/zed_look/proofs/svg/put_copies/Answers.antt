use Rattle.std.proofs.Common.{arith, ◌<◌}
use Rattle.zed_look.specs.Svg.{escaped}
use Rattle.zed_look.proofs.Copies.{one_less}
use Rattle.zed_look.proofs.svg.put_copies.Goals as goal

pub loop-done-preserved : goal.loop-done-preserved
loop-done-preserved c =
    let below : c.loop-done.done < c.args.count = omega arith in
    one_less c.args.count c.loop-done.done (escaped c.args.character) c.loop-done.out.items c.put_escaped.new.out.items _ below c.loop-done.invariant c.in_ok-put_escaped.ensures
