use Rattle.std.proofs.Common.{◌≡◌, rules}
use Rattle.zed_types.specs.Names.{byte_of}
use Rattle.zed_types.specs.Text.{run_from}
use Rattle.zed_delivery.specs.Made.{byte_things}
use Rattle.zed_delivery.proofs.MadeThings.{inserted_one}
use Rattle.zed_delivery.proofs.made.inserted.Goals as goal

pub loop-i-preserved : goal.loop-i-preserved
loop-i-preserved c =
    let id : c.new.result ≡ byte_of c.args.stamp c.loop-i.i = search rules in
    inserted_one c.args.text c.args.stamp c.loop-i.i c.args.bytes.now c.loop-i.things.items c.add.new.things.items
    (byte_things c.args.text (run_from c.args.stamp 0 c.args.bytes.now)) c.new.result c.loop-i-test.true id c.in_ok-add.ensures.ok c.loop-i.invariant
