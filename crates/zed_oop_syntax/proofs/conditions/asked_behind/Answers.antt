use Rattle.std.proofs.Common.{◌∙◌, ap}
use Rattle.zed_oop_syntax.specs.Verbs.{question_word}
use Rattle.zed_oop_syntax.proofs.Building.{on_err}
use Rattle.zed_oop_syntax.proofs.ConditionLemmas.{blocked_takes}
use Rattle.zed_oop_syntax.specs.Text.{upper}
use Rattle.zed_oop_syntax.proofs.conditions.asked_behind.Goals as goal

pub returns-in-Blocked-clause-memory_only_when : goal.returns-in-Blocked-clause-memory_only_when
returns-in-Blocked-clause-memory_only_when c =
    on_err c.blocked_at.result
    (blocked_takes c.args.program.now (upper c.args.word.now) c.args.at (c.requires.said ∙ ap question_word c.in-Blocked.is))
    c.blocked_at.ensures.memory_only_when
