use Rattle.std.proofs.Common.{◌≡◌, ◌<◌, length, get_or, sym}
use Rattle.std.proofs.lemmas.Result.{err_from_is_err_and}
use Rattle.zed_lint.specs.Commands.{stat_bytes}
use Rattle.zed_lint.proofs.Some.{read_member}
use Rattle.zed_lint.proofs.commands.keep_stats.Goals as goal

pub returns-in_err-keep_program-clause-memory_only_when : goal.returns-in_err-keep_program-clause-memory_only_when
returns-in_err-keep_program-clause-memory_only_when c =
    let p = err_from_is_err_and c.from_residual.result c.from_residual.ensures.1 in
    let is : get_or c.args.stats.now c.loop-stat.stat-index c.stat-item.result ≡ c.stat-item.result = sym c.stat-item.is in
    let some : 0 < length (stat_bytes c.stat-item.result) = rw c.own_bytes.ensures at c.in_err-keep_program.ensures.memory_only_when in
    rw p.1 (read_member stat_bytes c.loop-stat.stat-index c.args.stats.now c.stat-item.result c.loop-stat-test.true is some)
