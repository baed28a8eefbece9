use Rattle.std.proofs.lemmas.Result.{err_from_is_err_and}
use Rattle.zed_oop_syntax.specs.Text.{upper}
use Rattle.zed_oop_syntax.proofs.ConditionLemmas.{flag_takes}
use Rattle.zed_oop_syntax.proofs.conditions.test_behind.Goals as goal

pub returns-in_err-upper-in-None-clause-memory_only_when : goal.returns-in_err-upper-in-None-clause-memory_only_when
returns-in_err-upper-in-None-clause-memory_only_when c =
    let p = err_from_is_err_and c.from_residual.result c.from_residual.ensures.1 in
    rw p.1 (flag_takes c.args.program.now c.args.word.now c.args.at c.in-None.ensures c.in_err-upper-in-None.ensures.memory_only_when)
