use Rattle.zed_code.proofs.Rooms.{lists-kept}
use Rattle.zed_code.proofs.blocks.reserve_at.Goals as goal

pub returns-clause-kept : goal.returns-clause-kept
returns-clause-kept c = lists-kept c.args.blocks.now.items c.args.block c.index_mut.result.now c.reserve.new.block c.requires c.index_mut.ensures.value c.reserve.ensures.kept
