use Rattle.std.proofs.Common.{◌≡◌, ◌<◌, length, sym, ◌∙◌, arith}
use Rattle.zed_view.proofs.Alike.{more_shown, same_shown}
use Rattle.zed_view.proofs.same.slots.tables_same.Goals as goal

pub returns-then-not-shows_same : goal.returns-then-not-shows_same
returns-then-not-shows_same g c =
    let k : c.loop-i.i < length c.args.b.now = omega (arith, c.loop-i-test.true, c.if-a-b.false) in (
      λ t. absurd (cc),
      λ e. sym c.if-not-shows_same.true ∙ c.shows_same.ensures.1
          (same_shown g.R.Slot.shown c.args.a.now c.args.b.now c.loop-i.i c.index-a-i.result c.index-b-i.result
          c.loop-i-test.true k c.index-a-i.is c.index-b-i.is e),
    )

pub loop-i-preserved : goal.loop-i-preserved
loop-i-preserved g c =
    let k : c.loop-i.i < length c.args.b.now = omega (arith, c.loop-i-test.true, c.if-a-b.false) in
    let e : g.R.Slot.shown c.index-a-i.result ≡ g.R.Slot.shown c.index-b-i.result = c.shows_same.ensures.0 c.if-not-shows_same.false in (
      omega (arith, c.loop-i-test.true),
      more_shown g.R.Slot.shown c.args.a.now c.args.b.now c.loop-i.i c.index-a-i.result c.index-b-i.result
          c.loop-i-test.true k c.index-a-i.is c.index-b-i.is e c.loop-i.invariant.1,
    )
