use Rattle.std.proofs.Common.{◌∙◌, arith}
use Rattle.zed_world.proofs.WorldAgain.{world_is}
use Rattle.zed_world.proofs.reading.world_of.Goals as goal

pub spelled-requires : goal.spelled-requires
spelled-requires c = record {
  file = c.args.bytes.now;
  read = world_is c.args.bytes.now (omega arith) (omega arith) ∙ c.in_ok-header.ensures.result;
}
