use Rattle.std.proofs.Common.{◌∙◌, sym}
use Rattle.std.proofs.lemmas.Result.{err_from_is_err_and}
use Rattle.zed_files.proofs.Deliveries.{all_delivered, lacked_memory, one_refused}
use Rattle.zed_files.proofs.gathering.deliver_all.Goals as goal

pub returns-clause-agree : goal.returns-clause-agree
returns-clause-agree c =
    (all_delivered c.deliveries_come_to_sets.ensures c.args.document.now c.args.edits.items c.deliver_all.new.self.edits c.requires.sound c.requires.empty c.requires.fit c.in_ok-deliver_all.ensures.result).0

pub returns-clause-set : goal.returns-clause-set
returns-clause-set c =
    (all_delivered c.deliveries_come_to_sets.ensures c.args.document.now c.args.edits.items c.deliver_all.new.self.edits c.requires.sound c.requires.empty c.requires.fit c.in_ok-deliver_all.ensures.result).1

pub returns-in_err-deliver_all-clause-err : goal.returns-in_err-deliver_all-clause-err
returns-in_err-deliver_all-clause-err c =
    let p = err_from_is_err_and c.from_residual.result c.from_residual.ensures.1 in
    rw p.1 (one_refused c.deliveries_come_to_sets.ensures c.args.document.now c.args.edits.items c.deliver_all.new.self.edits c.in_err-deliver_all.field-0.0 p.0 c.requires.sound c.requires.empty c.requires.fit p.2 c.in_err-deliver_all.ensures.result)

pub returns-in_err-deliver_all-clause-memory_only_when : goal.returns-in_err-deliver_all-clause-memory_only_when
returns-in_err-deliver_all-clause-memory_only_when c =
    let p = err_from_is_err_and c.from_residual.result c.from_residual.ensures.1 in
    rw p.1 (λ lack none. let new = c.in_err-deliver_all.ensures.memory_only_when (lacked_memory c.in_err-deliver_all.field-0.0 (sym p.2 ∙ lack)) in rw none at new.1)
