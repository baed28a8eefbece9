use Rattle.std.proofs.lemmas.Result.{err_from_is_err_and}
use Rattle.zed_lint.specs.Labels.{label_findings}
use Rattle.zed_lint.proofs.Some.{member_at}
use Rattle.zed_lint.proofs.labels.note_labels.Goals as goal

pub returns-in_err-note_label-clause-memory_only_when : goal.returns-in_err-note_label-clause-memory_only_when
returns-in_err-note_label-clause-memory_only_when c =
    let p = err_from_is_err_and c.from_residual.result c.from_residual.ensures.1 in
    rw p.1 (member_at (label_findings c.args.spot c.args.stats.now c.args.program.now) c.loop-at.at c.args.program.now 0 c.loop-at-test.true c.in_err-note_label.ensures.memory_only_when)
