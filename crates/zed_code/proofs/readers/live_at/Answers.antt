use Rattle.std.proofs.Common.{◌+◌, ◌-◌, drop, ap, ◌∙◌, sym, arith}
use Rattle.zed_code.specs.Blocks.{lists, joined}
use Rattle.zed_code.specs.Kept.{total}
use Rattle.zed_code.specs.Reading.{live, live_at}
use Rattle.zed_code.proofs.ReadBlocks.{searched}
use Rattle.zed_code.proofs.readers.live_at.Goals as goal

pub count_in-count-requires : goal.count_in-count-requires
count_in-count-requires c =
    let h = searched c.args.blocks.now c.loop-block.block-index c.block-item.result c.loop-block-test.true c.block-item.is in
    omega (arith, h.here, ap total c.deref.ensures.value, c.loop-block.invariant.room, c.requires)

pub returns-then-rest-count : goal.returns-then-rest-count
returns-then-rest-count c =
    let h = searched c.args.blocks.now c.loop-block.block-index c.block-item.result c.loop-block-test.true c.block-item.is in
    let e = c.count_in-count.ensures ∙ ap live c.deref.ensures.value in
    c.live_in.ensures ∙ ap (λ rs. live_at rs c.loop-block.rest) c.deref-then-rest-count.ensures.value
    ∙ sym (h.within c.loop-block.rest (omega (arith, e, c.if-rest-count.true))) ∙ c.loop-block.invariant.rest

pub loop-block-preserved : goal.loop-block-preserved
loop-block-preserved c =
    let h = searched c.args.blocks.now c.loop-block.block-index c.block-item.result c.loop-block-test.true c.block-item.is in
    let e = c.count_in-count.ensures ∙ ap live c.deref.ensures.value in
    let behind = joined (drop (c.loop-block.block-index + 1) (lists c.args.blocks.now)) in
    record {
      rest =
          ap (λ n. live_at behind (c.loop-block.rest - n)) e ∙ sym (h.behind c.loop-block.rest (omega (arith, e, c.if-rest-count.false)))
          ∙ c.loop-block.invariant.rest;
      room = omega (arith, h.room, c.loop-block.invariant.room);
    }
