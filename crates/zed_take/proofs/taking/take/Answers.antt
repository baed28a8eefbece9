use Rattle.std.proofs.Common.{true, false, ap, Err, inl, refl}
use Rattle.zed_take.proofs.Refused.{came, out_of_time, settled, spent, takes_join}
use Rattle.zed_take.proofs.taking.take.Goals as goal

pub returns-in-Some-clause-joins : goal.returns-in-Some-clause-joins
returns-in-Some-clause-joins c = takes_join c.args.document.now.edits c.args.base.now.edits c.args.world.now c.args.replica c.in-Some.first c.sought.result (rw c.edits.ensures.all at c.in-Some.ensures.next) c.sought.ensures.taken

pub returns-in-Some-clause-err : goal.returns-in-Some-clause-err
returns-in-Some-clause-err c = came c.args.document.now c.args.base.now c.args.world.now c.sought.result (out_of_time c.args.document.now.edits false (rw c.edits.ensures.all at c.in-Some.ensures.left)) c.sought.ensures.err

pub returns-in-Some-clause-refused : goal.returns-in-Some-clause-refused
returns-in-Some-clause-refused c = settled c.args.document.now c.args.base.now c.args.world.now c.sought.result (out_of_time c.args.document.now.edits false (rw c.edits.ensures.all at c.in-Some.ensures.left)) c.sought.ensures.fine c.sought.ensures.err

pub returns-in-None-clause-err : goal.returns-in-None-clause-err
returns-in-None-clause-err c =
    inl (inl (out_of_time c.args.document.now.edits true (rw c.edits.ensures.all at c.in-None.ensures.spent), refl))

pub returns-in-None-clause-refused : goal.returns-in-None-clause-refused
returns-in-None-clause-refused c e r = ap Err (spent c.args.document.now c.args.base.now c.args.world.now (out_of_time c.args.document.now.edits true (rw c.edits.ensures.all at c.in-None.ensures.spent)) e r)
