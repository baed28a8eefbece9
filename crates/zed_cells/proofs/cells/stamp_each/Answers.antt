use Rattle.std.proofs.Common.{◌≡◌, ◌∙◌, ap, replicate, arith}
use Rattle.zed_cells.proofs.cells.stamp_each.Goals as goal

pub returns : goal.returns
returns c =
    let last : c.loop.counter ≡ 1500 = omega arith in
    c.loop.invariant ∙ ap (λ n. replicate n c.args.stamp) last
