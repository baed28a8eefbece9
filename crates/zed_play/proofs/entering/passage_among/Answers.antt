use Rattle.std.proofs.Common.{◌∙◌, ◌-◌, arith, refl, sym}
use Rattle.zed_play.proofs.Passages.{passage_before, passage_here}
use Rattle.zed_play.proofs.entering.passage_among.Goals as goal

pub returns-then-is_passage : goal.returns-then-is_passage
returns-then-is_passage c =
    let l = c.loop-left in
    passage_here l.left (l.left - 1) c.args.colour c.args.tiles.now c.place_of-place.result c.tile_in.result _ c.loop-left-test.true refl c.place_of-place.ensures
    c.tile_in.ensures.result (sym c.is_passage.ensures ∙ c.if-is_passage.true) l.invariant.1

pub loop-left-preserved : goal.loop-left-preserved
loop-left-preserved c =
    let l = c.loop-left in (
      omega (arith, l.invariant.0),
      passage_before l.left (l.left - 1) c.args.colour c.args.tiles.now c.place_of-place.result c.tile_in.result _ c.loop-left-test.true refl c.place_of-place.ensures
          c.tile_in.ensures.result (sym c.is_passage.ensures ∙ c.if-is_passage.false) l.invariant.1,
    )
