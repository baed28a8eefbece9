use Rattle.std.proofs.Common.{◌≡◌, ◌+◌, ◌++◌, length, arith}
use Rattle.std.specs.List.{filter_map}
use Rattle.zed_types.specs.Table.{map_from}
use Rattle.zed_edit.specs.Genesis.{own_program, opened_text, opened_texts}
use Rattle.zed_edit.proofs.Programs.{texts_more}
use Rattle.zed_edit.proofs.genesis.open_texts.Goals as goal

pub loop-board-preserved : goal.loop-board-preserved
loop-board-preserved c = record {
  made =
      let bs = c.args.boards.now in
      let b = c.board-item.result in
      let added : c.open_texts_of.new.texts ≡ c.loop-board.texts ++ map_from (opened_text c.args.stamp) c.loop-board.t (filter_map own_program b.stats)
      = rw (c.as_slice.ensures) at c.in_ok-t.ensures.added in
      let number : c.in_ok-t.t ≡ c.loop-board.t + length (filter_map own_program b.stats) =
      rw (c.as_slice.ensures) at c.in_ok-t.ensures.number in
      texts_more (opened_text c.args.stamp) c.loop-board.texts c.open_texts_of.new.texts (c.args.texts.now ++ opened_texts c.args.stamp bs) c.loop-board.t c.in_ok-t.t bs c.loop-board.board-index b
      c.loop-board-test.true c.board-item.is added number c.loop-board.invariant.made;
  few = let f = c.in_ok-t.ensures.few in omega (arith, c.loop-board.invariant.few);
}
