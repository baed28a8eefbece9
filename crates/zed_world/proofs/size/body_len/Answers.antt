use Rattle.std.proofs.Common.{arith}
use Rattle.zed_world.proofs.Sizes.{length_body}
use Rattle.zed_world.proofs.size.body_len.Goals as goal

pub returns-clause-result : goal.returns-clause-result
returns-clause-result c =
    let whole = length_body c.args.board.now c.requires.name c.requires.message in
    let stats = rw c.as_slice.ensures at c.stats_len.ensures.result in
    omega (arith, whole, stats, c.runs_len.ensures.result)
