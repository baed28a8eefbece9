use Rattle.std.proofs.Common.{inl}
use Rattle.std.proofs.lemmas.Result.{err_from_is_err_and}
use Rattle.cmd_undo.proofs.undoing.undo_between.Goals as goal

pub returns-in_err-marks : goal.returns-in_err-marks
returns-in_err-marks c =
    let p = err_from_is_err_and c.from_residual.result c.from_residual.ensures.1 in
    rw p.1 (inl p.2)

pub undo_marked-requires : goal.undo_marked-requires
undo_marked-requires c = c.requires

pub returns : goal.returns
returns c = let undoes = rw (c.as_slice.ensures.value, c.in_ok-marks.ensures) at c.undo_marked.ensures in undoes
