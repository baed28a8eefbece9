use Rattle.std.proofs.Common.{arith}
use Rattle.zed_world.proofs.Sizes.{length_body}
use Rattle.cmd_program.proofs.sizes.body_len.Goals as goal

pub returns : goal.returns
returns c =
    let whole = length_body c.args.board.now c.requires.name c.requires.message in
    let stats = rw c.as_slice.ensures at c.stats_len.ensures.result in
    omega (arith, whole, stats, c.runs_len.ensures.result)
