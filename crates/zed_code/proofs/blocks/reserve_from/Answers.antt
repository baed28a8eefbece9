use Rattle.std.proofs.Common.{rules, ◌<◌, length, ◌∙◌, arith}
use Rattle.zed_code.proofs.Puts.{length-set}
use Rattle.zed_code.proofs.Rooms.{lists-kept, room-next}
use Rattle.zed_code.proofs.blocks.reserve_from.Goals as goal

pub returns-in_err-reserve-clause-kept : goal.returns-in_err-reserve-clause-kept
returns-in_err-reserve-clause-kept c =
    let bs = c.loop-i.blocks.items in
    let l : c.loop-i.i < length bs = search rules in
    lists-kept bs c.loop-i.i c.index_mut.result.now c.reserve.new.block l c.index_mut.ensures.value c.reserve.ensures.kept ∙ c.loop-i.invariant.same

pub loop-i-preserved : goal.loop-i-preserved
loop-i-preserved c =
    let bs = c.loop-i.blocks.items in
    let l : c.loop-i.i < length bs = search rules in
    record {
      same =
          lists-kept bs c.loop-i.i c.index_mut.result.now c.reserve.new.block l c.index_mut.ensures.value c.reserve.ensures.kept
          ∙ c.loop-i.invariant.same;
      most = omega (arith, l, length-set bs c.loop-i.i c.reserve.new.block);
      room = room-next bs c.loop-i.i c.args.first c.reserve.new.block (search rules) l c.loop-i.invariant.room c.in_ok-reserve.ensures.room;
    }
