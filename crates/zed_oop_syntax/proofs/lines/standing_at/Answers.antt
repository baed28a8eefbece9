use Rattle.std.proofs.Common.{◌∙◌, sym}
use Rattle.std.proofs.lemmas.Result.{err_from_is_err_and}
use Rattle.zed_oop_syntax.proofs.LineLemmas.{attempt_takes, message_takes, step_takes}
use Rattle.zed_oop_syntax.proofs.lines.standing_at.Goals as goal

pub returns-in_err-heading-in-Step-clause-memory_only_when : goal.returns-in_err-heading-in-Step-clause-memory_only_when
returns-in_err-heading-in-Step-clause-memory_only_when c =
    let p = err_from_is_err_and c.from_residual.result c.from_residual.ensures.1 in
    rw p.1 (step_takes c.args.program.now c.args.at (sym c.begun_at.ensures ∙ c.in-Step.is) c.in_err-heading-in-Step.ensures.memory_only_when)

pub returns-in_err-heading-in-Attempt-clause-memory_only_when : goal.returns-in_err-heading-in-Attempt-clause-memory_only_when
returns-in_err-heading-in-Attempt-clause-memory_only_when c =
    let r = c.from_residual-in_err-heading-in-Attempt in
    let p = err_from_is_err_and r.result r.ensures.1 in
    rw p.1 (attempt_takes c.args.program.now c.args.at (sym c.begun_at.ensures ∙ c.in-Attempt.is) c.in_err-heading-in-Attempt.ensures.memory_only_when)

pub returns-in_err-text-in-Message-clause-memory_only_when : goal.returns-in_err-text-in-Message-clause-memory_only_when
returns-in_err-text-in-Message-clause-memory_only_when c =
    let r = c.from_residual-in_err-text-in-Message in
    let p = err_from_is_err_and r.result r.ensures.1 in
    rw p.1 (message_takes c.args.program.now c.args.at (sym c.begun_at.ensures ∙ c.in-Message.is))
