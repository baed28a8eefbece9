use Rattle.std.proofs.Common.{ap, ◌∙◌, arith}
use Rattle.zed_code.specs.Kept.{total}
use Rattle.zed_code.specs.Reading.{live}
use Rattle.zed_code.proofs.ReadBlocks.{counted}
use Rattle.zed_code.proofs.readers.count_live.Goals as goal

pub count_in-sum-requires : goal.count_in-sum-requires
count_in-sum-requires c =
    let h = counted c.args.blocks.now c.loop-block.block-index c.loop-block.sum c.block-item.result c.loop-block-test.true c.block-item.is c.loop-block.invariant.rest c.loop-block.invariant.room in
    omega (arith, h.here, ap total c.deref.ensures.value, c.requires)

pub overflow_add-sum : goal.overflow_add-sum
overflow_add-sum c =
    let h = counted c.args.blocks.now c.loop-block.block-index c.loop-block.sum c.block-item.result c.loop-block-test.true c.block-item.is c.loop-block.invariant.rest c.loop-block.invariant.room in
    let e = c.count_in-sum.ensures ∙ ap live c.deref.ensures.value in
    omega (arith, h.fits, e, c.requires)

pub loop-block-preserved : goal.loop-block-preserved
loop-block-preserved c =
    let h = counted c.args.blocks.now c.loop-block.block-index c.loop-block.sum c.block-item.result c.loop-block-test.true c.block-item.is c.loop-block.invariant.rest c.loop-block.invariant.room in
    let e = c.count_in-sum.ensures ∙ ap live c.deref.ensures.value in
    record { rest = omega (arith, h.rest, e); room = omega (arith, h.room, e) }
