use Rattle.std.proofs.Common.{◌≡◌, ◌<◌, length, slice_get, arith}
use Rattle.zed_view.proofs.Alike.{more_alike}
use Rattle.zed_view.proofs.same.listed.lists_same.Goals as goal

pub loop-i-preserved : goal.loop-i-preserved
loop-i-preserved g c =
    let mine = g.L.Listed.shown c.args.a.now in
    let there = g.L.Listed.shown c.args.b.now in
    let n : length mine ≡ length there = omega (arith, c.len-count.ensures, c.len.ensures, c.if-count-len.false) in
    let h : c.loop-i.i < length mine = omega (arith, c.loop-i-test.true, c.len-count.ensures) in
    let e : slice_get mine c.loop-i.i ≡ slice_get there c.loop-i.i = c.is_same_at.ensures.0 c.if-not-is_same_at.false in (
      omega (arith, h),
      more_alike mine there c.loop-i.i h (omega (arith, h, n)) c.loop-i.invariant.1 e,
    )
