use Rattle.std.proofs.Common.{arith, add-one}
use Rattle.zed_world.proofs.Sizes.{stats_more}
use Rattle.cmd_program.proofs.Counted.{one_of}
use Rattle.cmd_program.proofs.sizes.stats_len.Goals as goal

pub overflow_add-more : goal.overflow_add-more
overflow_add-more c =
    let part = one_of c.args.stats.now c.loop-stat.stat-index c.stat-item.result c.loop-stat-test.true c.stat-item.is in
    omega (arith, part, c.requires, c.code_len-more.ensures)

pub overflow_add-bytes : goal.overflow_add-bytes
overflow_add-bytes c =
    let part = one_of c.args.stats.now c.loop-stat.stat-index c.stat-item.result c.loop-stat-test.true c.stat-item.is in
    omega (arith, part, c.requires, c.code_len-more.ensures, c.loop-stat.invariant)

pub loop-stat-preserved : goal.loop-stat-preserved
loop-stat-preserved c =
    let more = stats_more c.args.stats.now c.loop-stat.stat-index c.stat-item.result c.loop-stat-test.true c.stat-item.is in
    rw add-one (omega (arith, more, c.loop-stat.invariant, c.code_len-more.ensures))
