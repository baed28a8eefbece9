use Rattle.std.proofs.lemmas.Result.{err_from_is_err_and}
use Rattle.zed_oop_syntax.specs.Text.{upper}
use Rattle.zed_oop_syntax.proofs.Building.{on_err}
use Rattle.zed_oop_syntax.proofs.KeepingLemmas.{doing_takes, naming_takes, other_takes}
use Rattle.zed_oop_syntax.proofs.commands.command_behind.Goals as goal

pub returns-in-Some-clause-memory_only_when : goal.returns-in-Some-clause-memory_only_when
returns-in-Some-clause-memory_only_when c =
    on_err c.deed_behind.result
    (doing_takes c.args.program.now (upper c.args.word.now) c.in-Some.verb c.args.at c.in-Some.ensures)
    c.deed_behind.ensures.memory_only_when

pub returns-in-Some-naming_of-clause-memory_only_when : goal.returns-in-Some-naming_of-clause-memory_only_when
returns-in-Some-naming_of-clause-memory_only_when c =
    on_err c.naming_behind.result
    (naming_takes c.args.program.now (upper c.args.word.now) c.in-Some-naming_of.verb c.args.at c.in-Some-naming_of.ensures)
    c.naming_behind.ensures.memory_only_when

pub returns-in_err-upper-in-None-clause-memory_only_when : goal.returns-in_err-upper-in-None-clause-memory_only_when
returns-in_err-upper-in-None-clause-memory_only_when c =
    let p = err_from_is_err_and c.from_residual.result c.from_residual.ensures.1 in
    rw p.1
    (other_takes c.args.program.now c.args.word.now c.args.at c.in_default.ensures c.in_default-naming_of.ensures c.in-None.ensures
    c.in_err-upper-in-None.ensures.memory_only_when)
