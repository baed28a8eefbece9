use Rattle.std.proofs.Common.{inl}
use Rattle.std.proofs.lemmas.Result.{err_from_is_err_and}
use Rattle.cmd_undo.proofs.Steps.{undoes_declined, undoes_on}
use Rattle.cmd_undo.proofs.undoing.undo_marked.Goals as goal

pub returns-in_err-left : goal.returns-in_err-left
returns-in_err-left c =
    let p = err_from_is_err_and c.from_residual.result c.from_residual.ensures.1 in
    rw p.1 (inl p.2)

pub returns-in-Some : goal.returns-in-Some
returns-in-Some c =
    let d = c.args.document.now in
    let is = rw c.in-Some.is at c.stopping.ensures in
    undoes_declined c.args.file.now c.args.manner c.args.replica c.args.marks.now (d.world, d.edits) c.in_ok-left.left.edits _ c.stopped_by.result c.in_ok-left.ensures.edits is
    c.stopped_by.ensures

pub taken_back-requires : goal.taken_back-requires
taken_back-requires c = record { sound = c.requires; left = c.in_ok-left.ensures.edits; left_sound = c.in_ok-left.ensures.sound }

pub returns : goal.returns
returns c =
    let d = c.args.document.now in
    let is = rw c.in-None.is at c.stopping.ensures in
    undoes_on c.args.file.now c.args.manner c.args.replica c.args.marks.now (d.world, d.edits) c.in_ok-left.left.edits c.taken_back.result c.in_ok-left.ensures.edits is
    c.taken_back.ensures
